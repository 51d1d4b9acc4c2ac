-- The table of instructions, by the MOS MCS6500 programming manual.
use Rattle.std.specs.Prelude.{ℕ, Bool, false, true, List, [], ◌∷◌, Option, Some, None, ◌==◌}
use Rattle.std.specs.Prelude.{if◌then◌else◌}
use Rattle.mos_cpu.specs.declared.opcode_row.Row.{Row}
use Rattle.mos_cpu.specs.declared.operation.Operation.{Operation}
use Rattle.mos_cpu.specs.declared.operation.Operation.TheVariants.{Adc, And, Asl, Bcc, Bcs, Beq}
use Rattle.mos_cpu.specs.declared.operation.Operation.TheVariants.{Bit, Bmi, Bne, Bpl, Brk, Bvc}
use Rattle.mos_cpu.specs.declared.operation.Operation.TheVariants.{Bvs, Clc, Cld, Cli, Clv, Cmp}
use Rattle.mos_cpu.specs.declared.operation.Operation.TheVariants.{Cpx, Cpy, Dec, Dex, Dey, Eor}
use Rattle.mos_cpu.specs.declared.operation.Operation.TheVariants.{Inc, Inx, Iny, Jmp, Jsr, Lda}
use Rattle.mos_cpu.specs.declared.operation.Operation.TheVariants.{Ldx, Ldy, Lsr, Nop, Ora, Pha}
use Rattle.mos_cpu.specs.declared.operation.Operation.TheVariants.{Php, Pla, Plp, Rol, Ror, Rti}
use Rattle.mos_cpu.specs.declared.operation.Operation.TheVariants.{Rts, Sbc, Sec, Sed, Sei, Sta}
use Rattle.mos_cpu.specs.declared.operation.Operation.TheVariants.{Stx, Sty, Tax, Tay, Tsx, Txa}
use Rattle.mos_cpu.specs.declared.operation.Operation.TheVariants.{Txs, Tya}
use Rattle.mos_cpu.specs.declared.mode.Mode.{Mode}
use Rattle.mos_cpu.specs.declared.mode.Mode.TheVariants.{Implied, Accumulator, Immediate, ZeroPage}
use Rattle.mos_cpu.specs.declared.mode.Mode.TheVariants.{ZeroPageX, ZeroPageY, Absolute, AbsoluteX}
use Rattle.mos_cpu.specs.declared.mode.Mode.TheVariants.{AbsoluteY, Relative, Indirect, IndirectX}
use Rattle.mos_cpu.specs.declared.mode.Mode.TheVariants.{IndirectY}

-- An opcode, its operation, addressing mode and cycles, and whether it takes one more if
-- indexing crosses a page.
abbrev pub Entry : Type 0
Entry = ℕ × Operation × Mode × ℕ × Bool

-- The 151 documented opcodes.
abbrev pub entries : List Entry
entries =
    (0x69, Adc, Immediate, 2, false) ∷
    (0x65, Adc, ZeroPage, 3, false) ∷
    (0x75, Adc, ZeroPageX, 4, false) ∷
    (0x6D, Adc, Absolute, 4, false) ∷
    (0x7D, Adc, AbsoluteX, 4, true) ∷
    (0x79, Adc, AbsoluteY, 4, true) ∷
    (0x61, Adc, IndirectX, 6, false) ∷
    (0x71, Adc, IndirectY, 5, true) ∷
    (0x29, And, Immediate, 2, false) ∷
    (0x25, And, ZeroPage, 3, false) ∷
    (0x35, And, ZeroPageX, 4, false) ∷
    (0x2D, And, Absolute, 4, false) ∷
    (0x3D, And, AbsoluteX, 4, true) ∷
    (0x39, And, AbsoluteY, 4, true) ∷
    (0x21, And, IndirectX, 6, false) ∷
    (0x31, And, IndirectY, 5, true) ∷
    (0xC9, Cmp, Immediate, 2, false) ∷
    (0xC5, Cmp, ZeroPage, 3, false) ∷
    (0xD5, Cmp, ZeroPageX, 4, false) ∷
    (0xCD, Cmp, Absolute, 4, false) ∷
    (0xDD, Cmp, AbsoluteX, 4, true) ∷
    (0xD9, Cmp, AbsoluteY, 4, true) ∷
    (0xC1, Cmp, IndirectX, 6, false) ∷
    (0xD1, Cmp, IndirectY, 5, true) ∷
    (0x49, Eor, Immediate, 2, false) ∷
    (0x45, Eor, ZeroPage, 3, false) ∷
    (0x55, Eor, ZeroPageX, 4, false) ∷
    (0x4D, Eor, Absolute, 4, false) ∷
    (0x5D, Eor, AbsoluteX, 4, true) ∷
    (0x59, Eor, AbsoluteY, 4, true) ∷
    (0x41, Eor, IndirectX, 6, false) ∷
    (0x51, Eor, IndirectY, 5, true) ∷
    (0xA9, Lda, Immediate, 2, false) ∷
    (0xA5, Lda, ZeroPage, 3, false) ∷
    (0xB5, Lda, ZeroPageX, 4, false) ∷
    (0xAD, Lda, Absolute, 4, false) ∷
    (0xBD, Lda, AbsoluteX, 4, true) ∷
    (0xB9, Lda, AbsoluteY, 4, true) ∷
    (0xA1, Lda, IndirectX, 6, false) ∷
    (0xB1, Lda, IndirectY, 5, true) ∷
    (0x09, Ora, Immediate, 2, false) ∷
    (0x05, Ora, ZeroPage, 3, false) ∷
    (0x15, Ora, ZeroPageX, 4, false) ∷
    (0x0D, Ora, Absolute, 4, false) ∷
    (0x1D, Ora, AbsoluteX, 4, true) ∷
    (0x19, Ora, AbsoluteY, 4, true) ∷
    (0x01, Ora, IndirectX, 6, false) ∷
    (0x11, Ora, IndirectY, 5, true) ∷
    (0xE9, Sbc, Immediate, 2, false) ∷
    (0xE5, Sbc, ZeroPage, 3, false) ∷
    (0xF5, Sbc, ZeroPageX, 4, false) ∷
    (0xED, Sbc, Absolute, 4, false) ∷
    (0xFD, Sbc, AbsoluteX, 4, true) ∷
    (0xF9, Sbc, AbsoluteY, 4, true) ∷
    (0xE1, Sbc, IndirectX, 6, false) ∷
    (0xF1, Sbc, IndirectY, 5, true) ∷
    (0x85, Sta, ZeroPage, 3, false) ∷
    (0x95, Sta, ZeroPageX, 4, false) ∷
    (0x8D, Sta, Absolute, 4, false) ∷
    (0x9D, Sta, AbsoluteX, 5, false) ∷
    (0x99, Sta, AbsoluteY, 5, false) ∷
    (0x81, Sta, IndirectX, 6, false) ∷
    (0x91, Sta, IndirectY, 6, false) ∷
    (0x0A, Asl, Accumulator, 2, false) ∷
    (0x06, Asl, ZeroPage, 5, false) ∷
    (0x16, Asl, ZeroPageX, 6, false) ∷
    (0x0E, Asl, Absolute, 6, false) ∷
    (0x1E, Asl, AbsoluteX, 7, false) ∷
    (0x4A, Lsr, Accumulator, 2, false) ∷
    (0x46, Lsr, ZeroPage, 5, false) ∷
    (0x56, Lsr, ZeroPageX, 6, false) ∷
    (0x4E, Lsr, Absolute, 6, false) ∷
    (0x5E, Lsr, AbsoluteX, 7, false) ∷
    (0x2A, Rol, Accumulator, 2, false) ∷
    (0x26, Rol, ZeroPage, 5, false) ∷
    (0x36, Rol, ZeroPageX, 6, false) ∷
    (0x2E, Rol, Absolute, 6, false) ∷
    (0x3E, Rol, AbsoluteX, 7, false) ∷
    (0x6A, Ror, Accumulator, 2, false) ∷
    (0x66, Ror, ZeroPage, 5, false) ∷
    (0x76, Ror, ZeroPageX, 6, false) ∷
    (0x6E, Ror, Absolute, 6, false) ∷
    (0x7E, Ror, AbsoluteX, 7, false) ∷
    (0xC6, Dec, ZeroPage, 5, false) ∷
    (0xD6, Dec, ZeroPageX, 6, false) ∷
    (0xCE, Dec, Absolute, 6, false) ∷
    (0xDE, Dec, AbsoluteX, 7, false) ∷
    (0xE6, Inc, ZeroPage, 5, false) ∷
    (0xF6, Inc, ZeroPageX, 6, false) ∷
    (0xEE, Inc, Absolute, 6, false) ∷
    (0xFE, Inc, AbsoluteX, 7, false) ∷
    (0xA2, Ldx, Immediate, 2, false) ∷
    (0xA6, Ldx, ZeroPage, 3, false) ∷
    (0xB6, Ldx, ZeroPageY, 4, false) ∷
    (0xAE, Ldx, Absolute, 4, false) ∷
    (0xBE, Ldx, AbsoluteY, 4, true) ∷
    (0xA0, Ldy, Immediate, 2, false) ∷
    (0xA4, Ldy, ZeroPage, 3, false) ∷
    (0xB4, Ldy, ZeroPageX, 4, false) ∷
    (0xAC, Ldy, Absolute, 4, false) ∷
    (0xBC, Ldy, AbsoluteX, 4, true) ∷
    (0x86, Stx, ZeroPage, 3, false) ∷
    (0x96, Stx, ZeroPageY, 4, false) ∷
    (0x8E, Stx, Absolute, 4, false) ∷
    (0x84, Sty, ZeroPage, 3, false) ∷
    (0x94, Sty, ZeroPageX, 4, false) ∷
    (0x8C, Sty, Absolute, 4, false) ∷
    (0xE0, Cpx, Immediate, 2, false) ∷
    (0xE4, Cpx, ZeroPage, 3, false) ∷
    (0xEC, Cpx, Absolute, 4, false) ∷
    (0xC0, Cpy, Immediate, 2, false) ∷
    (0xC4, Cpy, ZeroPage, 3, false) ∷
    (0xCC, Cpy, Absolute, 4, false) ∷
    (0x24, Bit, ZeroPage, 3, false) ∷
    (0x2C, Bit, Absolute, 4, false) ∷
    (0x4C, Jmp, Absolute, 3, false) ∷
    (0x6C, Jmp, Indirect, 5, false) ∷
    (0x20, Jsr, Absolute, 6, false) ∷
    (0x60, Rts, Implied, 6, false) ∷
    (0x40, Rti, Implied, 6, false) ∷
    (0x00, Brk, Implied, 7, false) ∷
    (0x48, Pha, Implied, 3, false) ∷
    (0x08, Php, Implied, 3, false) ∷
    (0x68, Pla, Implied, 4, false) ∷
    (0x28, Plp, Implied, 4, false) ∷
    (0x10, Bpl, Relative, 2, false) ∷
    (0x30, Bmi, Relative, 2, false) ∷
    (0x50, Bvc, Relative, 2, false) ∷
    (0x70, Bvs, Relative, 2, false) ∷
    (0x90, Bcc, Relative, 2, false) ∷
    (0xB0, Bcs, Relative, 2, false) ∷
    (0xD0, Bne, Relative, 2, false) ∷
    (0xF0, Beq, Relative, 2, false) ∷
    (0x18, Clc, Implied, 2, false) ∷
    (0x38, Sec, Implied, 2, false) ∷
    (0x58, Cli, Implied, 2, false) ∷
    (0x78, Sei, Implied, 2, false) ∷
    (0xB8, Clv, Implied, 2, false) ∷
    (0xD8, Cld, Implied, 2, false) ∷
    (0xF8, Sed, Implied, 2, false) ∷
    (0xAA, Tax, Implied, 2, false) ∷
    (0x8A, Txa, Implied, 2, false) ∷
    (0xA8, Tay, Implied, 2, false) ∷
    (0x98, Tya, Implied, 2, false) ∷
    (0xBA, Tsx, Implied, 2, false) ∷
    (0x9A, Txs, Implied, 2, false) ∷
    (0xE8, Inx, Implied, 2, false) ∷
    (0xCA, Dex, Implied, 2, false) ∷
    (0xC8, Iny, Implied, 2, false) ∷
    (0x88, Dey, Implied, 2, false) ∷
    (0xEA, Nop, Implied, 2, false) ∷ []

abbrev pub row_with : Operation → Mode → ℕ → Bool → Row
row_with operation mode cycles crossing =
    record { operation = operation; mode = mode; cycles = cycles; crossing = crossing }

abbrev pub row_at : Entry → Row
row_at entry = row_with entry.1 entry.2 entry.3 entry.4

-- The row of the first entry for an opcode.
abbrev pub row_in : List Entry → ℕ → Option Row
row_in [] opcode = None
row_in (entry ∷ entries) opcode =
    if entry.0 == opcode then Some (row_at entry) else row_in entries opcode

abbrev pub row_of : ℕ → Option Row
row_of opcode = row_in entries opcode
