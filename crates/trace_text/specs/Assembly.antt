-- Instructions as an assembler writes them: the names and the forms of operands are those of the MOS
-- MCS6500 programming manual.
use Rattle.std.specs.Prelude.{ℕ, ◌+◌, ◌*◌, ◌%◌, pos, ◌+ℤ◌, List, [], ◌++◌, codes}
use Rattle.mos_cpu.specs.Numbers.{modulo, signed}
use Rattle.mos_cpu.specs.declared.mode.Mode.{Mode}
use Rattle.mos_cpu.specs.declared.mode.Mode.TheVariants.{Implied, Accumulator, Immediate, ZeroPage}
use Rattle.mos_cpu.specs.declared.mode.Mode.TheVariants.{ZeroPageX, ZeroPageY, Absolute, AbsoluteX}
use Rattle.mos_cpu.specs.declared.mode.Mode.TheVariants.{AbsoluteY, Relative, Indirect, IndirectX}
use Rattle.mos_cpu.specs.declared.mode.Mode.TheVariants.{IndirectY}
use Rattle.mos_cpu.specs.declared.operation.Operation.{Operation}
use Rattle.mos_cpu.specs.declared.operation.Operation.TheVariants.{Adc, And, Asl, Bcc, Bcs, Beq}
use Rattle.mos_cpu.specs.declared.operation.Operation.TheVariants.{Bit, Bmi, Bne, Bpl, Brk, Bvc}
use Rattle.mos_cpu.specs.declared.operation.Operation.TheVariants.{Bvs, Clc, Cld, Cli, Clv, Cmp}
use Rattle.mos_cpu.specs.declared.operation.Operation.TheVariants.{Cpx, Cpy, Dec, Dex, Dey, Eor}
use Rattle.mos_cpu.specs.declared.operation.Operation.TheVariants.{Inc, Inx, Iny, Jmp, Jsr, Lda}
use Rattle.mos_cpu.specs.declared.operation.Operation.TheVariants.{Ldx, Ldy, Lsr, Nop, Ora, Pha}
use Rattle.mos_cpu.specs.declared.operation.Operation.TheVariants.{Php, Pla, Plp, Rol, Ror, Rti}
use Rattle.mos_cpu.specs.declared.operation.Operation.TheVariants.{Rts, Sbc, Sec, Sed, Sei, Sta}
use Rattle.mos_cpu.specs.declared.operation.Operation.TheVariants.{Stx, Sty, Tax, Tay, Tsx, Txa}
use Rattle.mos_cpu.specs.declared.operation.Operation.TheVariants.{Txs, Tya}
use Rattle.vcs_machine.specs.Faults.{hex2, hex4}

-- The name of an operation.
abbrev pub mnemonic : Operation → List ℕ
mnemonic Adc = codes "ADC"
mnemonic And = codes "AND"
mnemonic Asl = codes "ASL"
mnemonic Bcc = codes "BCC"
mnemonic Bcs = codes "BCS"
mnemonic Beq = codes "BEQ"
mnemonic Bit = codes "BIT"
mnemonic Bmi = codes "BMI"
mnemonic Bne = codes "BNE"
mnemonic Bpl = codes "BPL"
mnemonic Brk = codes "BRK"
mnemonic Bvc = codes "BVC"
mnemonic Bvs = codes "BVS"
mnemonic Clc = codes "CLC"
mnemonic Cld = codes "CLD"
mnemonic Cli = codes "CLI"
mnemonic Clv = codes "CLV"
mnemonic Cmp = codes "CMP"
mnemonic Cpx = codes "CPX"
mnemonic Cpy = codes "CPY"
mnemonic Dec = codes "DEC"
mnemonic Dex = codes "DEX"
mnemonic Dey = codes "DEY"
mnemonic Eor = codes "EOR"
mnemonic Inc = codes "INC"
mnemonic Inx = codes "INX"
mnemonic Iny = codes "INY"
mnemonic Jmp = codes "JMP"
mnemonic Jsr = codes "JSR"
mnemonic Lda = codes "LDA"
mnemonic Ldx = codes "LDX"
mnemonic Ldy = codes "LDY"
mnemonic Lsr = codes "LSR"
mnemonic Nop = codes "NOP"
mnemonic Ora = codes "ORA"
mnemonic Pha = codes "PHA"
mnemonic Php = codes "PHP"
mnemonic Pla = codes "PLA"
mnemonic Plp = codes "PLP"
mnemonic Rol = codes "ROL"
mnemonic Ror = codes "ROR"
mnemonic Rti = codes "RTI"
mnemonic Rts = codes "RTS"
mnemonic Sbc = codes "SBC"
mnemonic Sec = codes "SEC"
mnemonic Sed = codes "SED"
mnemonic Sei = codes "SEI"
mnemonic Sta = codes "STA"
mnemonic Stx = codes "STX"
mnemonic Sty = codes "STY"
mnemonic Tax = codes "TAX"
mnemonic Tay = codes "TAY"
mnemonic Tsx = codes "TSX"
mnemonic Txa = codes "TXA"
mnemonic Txs = codes "TXS"
mnemonic Tya = codes "TYA"

-- Where a branch leads if it is taken: its offset counts from the next instruction.
abbrev pub branch_address : ℕ → ℕ → ℕ
branch_address pc offset = modulo (pos ((pc + 2) % 65536) +ℤ signed offset) 65536

-- The number of two bytes of an instruction, the low one first.
abbrev pub word : ℕ → ℕ → ℕ
word low high = low + 256 * high

-- An operand by its addressing mode, of an instruction at this address with these bytes after its
-- opcode.
abbrev pub operand_text : Mode → ℕ → ℕ → ℕ → List ℕ
operand_text Implied pc low high = []
operand_text Accumulator pc low high = codes "A"
operand_text Immediate pc low high = codes "#$" ++ hex2 low
operand_text ZeroPage pc low high = codes "$" ++ hex2 low
operand_text ZeroPageX pc low high = codes "$" ++ (hex2 low ++ codes ",X")
operand_text ZeroPageY pc low high = codes "$" ++ (hex2 low ++ codes ",Y")
operand_text Absolute pc low high = codes "$" ++ hex4 (word low high)
operand_text AbsoluteX pc low high = codes "$" ++ (hex4 (word low high) ++ codes ",X")
operand_text AbsoluteY pc low high = codes "$" ++ (hex4 (word low high) ++ codes ",Y")
operand_text Relative pc low high = codes "$" ++ hex4 (branch_address pc low)
operand_text Indirect pc low high = codes "($" ++ (hex4 (word low high) ++ codes ")")
operand_text IndirectX pc low high = codes "($" ++ (hex2 low ++ codes ",X)")
operand_text IndirectY pc low high = codes "($" ++ (hex2 low ++ codes "),Y")
