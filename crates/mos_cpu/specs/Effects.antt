-- What an instruction does to the registers, by the MOS MCS6500 programming manual.
use Rattle.std.specs.Prelude.{ℕ, ◌+◌, ◌*◌, ◌%◌, true, false, if◌then◌else◌, List, slice_index}
use Rattle.mos_cpu.specs.Accesses.{Use, Modifies, use_of, is_taken}
use Rattle.mos_cpu.specs.Arithmetic.{load_of, and_of, ora_of, eor_of, compare_of, bit_of, asl_of}
use Rattle.mos_cpu.specs.Arithmetic.{lsr_of, rol_of, ror_of, inc_of, dec_of}
use Rattle.mos_cpu.specs.Decimal.{adc_of, sbc_of}
use Rattle.mos_cpu.specs.Operands.{Operand, Register, Value, Place, Instruction, length_of}
use Rattle.mos_cpu.specs.Registers.{Registers, after_pushes, after_pulls}
use Rattle.mos_cpu.specs.Status.{put_flag, pulled_of}
use Rattle.mos_cpu.specs.declared.arithmetic.Alu.{Alu}
use Rattle.mos_cpu.specs.declared.status.Flag.TheVariants.{Carry, Interrupt, Decimal, Overflow}
use Rattle.mos_cpu.specs.declared.operation.Operation.{Operation}
use Rattle.mos_cpu.specs.declared.operation.Operation.TheVariants.{Adc, And, Asl, Bcc, Bcs, Beq}
use Rattle.mos_cpu.specs.declared.operation.Operation.TheVariants.{Bit, Bmi, Bne, Bpl, Brk, Bvc}
use Rattle.mos_cpu.specs.declared.operation.Operation.TheVariants.{Bvs, Clc, Cld, Cli, Clv, Cmp}
use Rattle.mos_cpu.specs.declared.operation.Operation.TheVariants.{Cpx, Cpy, Dec, Dex, Dey, Eor}
use Rattle.mos_cpu.specs.declared.operation.Operation.TheVariants.{Inc, Inx, Iny, Jmp, Jsr, Lda}
use Rattle.mos_cpu.specs.declared.operation.Operation.TheVariants.{Ldx, Ldy, Lsr, Nop, Ora, Pha}
use Rattle.mos_cpu.specs.declared.operation.Operation.TheVariants.{Php, Pla, Plp, Rol, Ror, Rti}
use Rattle.mos_cpu.specs.declared.operation.Operation.TheVariants.{Rts, Sbc, Sec, Sed, Sei, Sta}
use Rattle.mos_cpu.specs.declared.operation.Operation.TheVariants.{Stx, Sty, Tax, Tay, Tsx, Txa}
use Rattle.mos_cpu.specs.declared.operation.Operation.TheVariants.{Txs, Tya}
use Rattle.mos_cpu.specs.declared.access.Source.{Source}
use Rattle.mos_cpu.specs.declared.access.Source.TheVariants.{Byte, Loaded, Changed}

-- What an operation that changes its operand makes of it. No access asks this of another operation.
abbrev pub changed_by : Use → ℕ → ℕ → Alu
changed_by (Modifies change) m p = change m p
changed_by other m p = load_of m p

abbrev pub changed_of : Operation → ℕ → ℕ → Alu
changed_of operation m p = changed_by (use_of operation) m p

-- What an access writes, after the bytes that were read.
abbrev pub written_byte : Operation → ℕ → List ℕ → Source → ℕ
written_byte operation p bytes (Byte b) = b
written_byte operation p bytes Loaded = slice_index bytes 0
written_byte operation p bytes Changed = (changed_of operation (slice_index bytes 0) p).value

-- The value that an operation works on: of a register, of the instruction, or the first byte that
-- was read.
abbrev pub operand_value : Operand → ℕ → List ℕ → ℕ
operand_value Register register bytes = register
operand_value (Value b) register bytes = b
operand_value (Place address crossed) register bytes = slice_index bytes 0

-- The number of two bytes that were read, its low one first.
abbrev pub word_in : List ℕ → ℕ → ℕ
word_in bytes i = slice_index bytes i + 256 * slice_index bytes (i + 1)

-- Where an operand is.
abbrev pub target_of : Operand → ℕ
target_of (Place address crossed) = address
target_of other = 0

abbrev pub with_a : Registers → Alu → Registers
with_a r o = record r { a = o.value; p = o.p }

abbrev pub with_x : Registers → Alu → Registers
with_x r o = record r { x = o.value; p = o.p }

abbrev pub with_y : Registers → Alu → Registers
with_y r o = record r { y = o.value; p = o.p }

abbrev pub with_p : Registers → ℕ → Registers
with_p r p = record r { p = p }

abbrev pub with_pc : Registers → ℕ → Registers
with_pc r pc = record r { pc = pc }

-- The registers after some pushes or pulls.
abbrev pub stack_down : Registers → ℕ → Registers
stack_down r n = record r { s = after_pushes r.s n }

abbrev pub stack_up : Registers → ℕ → Registers
stack_up r n = record r { s = after_pulls r.s n }

-- A changed operand: in A, or in memory, if only the status is left to change.
abbrev pub with_result : Operand → Registers → Alu → Registers
with_result Register r o = with_a r o
with_result other r o = with_p r o.p

-- After a branch: at its target if it is taken.
abbrev pub after_branch : Operation → Operand → Registers → Registers
after_branch operation operand r =
    if is_taken operation r.p then with_pc r (target_of operand) else r

-- What an operation whose operand has the value m does to the registers, which have the next
-- instruction's address.
abbrev pub effect_on : ℕ → Operation → Operand → Registers → List ℕ → Registers
effect_on m Adc operand r bytes = with_a r (adc_of r.a m r.p)
effect_on m And operand r bytes = with_a r (and_of r.a m r.p)
effect_on m Eor operand r bytes = with_a r (eor_of r.a m r.p)
effect_on m Ora operand r bytes = with_a r (ora_of r.a m r.p)
effect_on m Sbc operand r bytes = with_a r (sbc_of r.a m r.p)
effect_on m Lda operand r bytes = with_a r (load_of m r.p)
effect_on m Ldx operand r bytes = with_x r (load_of m r.p)
effect_on m Ldy operand r bytes = with_y r (load_of m r.p)
effect_on m Cmp operand r bytes = with_p r (compare_of r.a m r.p).p
effect_on m Cpx operand r bytes = with_p r (compare_of r.x m r.p).p
effect_on m Cpy operand r bytes = with_p r (compare_of r.y m r.p).p
effect_on m Bit operand r bytes = with_p r (bit_of r.a m r.p).p
effect_on m Asl operand r bytes = with_result operand r (asl_of m r.p)
effect_on m Lsr operand r bytes = with_result operand r (lsr_of m r.p)
effect_on m Rol operand r bytes = with_result operand r (rol_of m r.p)
effect_on m Ror operand r bytes = with_result operand r (ror_of m r.p)
effect_on m Inc operand r bytes = with_result operand r (inc_of m r.p)
effect_on m Dec operand r bytes = with_result operand r (dec_of m r.p)
effect_on m Jmp operand r bytes = with_pc r (target_of operand)
effect_on m Jsr operand r bytes = with_pc (stack_down r 2) (target_of operand)
effect_on m Brk operand r bytes =
    with_pc (with_p (stack_down r 3) (put_flag Interrupt true r.p)) (target_of operand)
effect_on m Rts operand r bytes = with_pc (stack_up r 2) ((word_in bytes 0 + 1) % 65536)
effect_on m Rti operand r bytes =
    with_pc (with_p (stack_up r 3) (pulled_of (slice_index bytes 0))) (word_in bytes 1)
effect_on m Pha operand r bytes = stack_down r 1
effect_on m Php operand r bytes = stack_down r 1
effect_on m Pla operand r bytes = with_a (stack_up r 1) (load_of (slice_index bytes 0) r.p)
effect_on m Plp operand r bytes = with_p (stack_up r 1) (pulled_of (slice_index bytes 0))
effect_on m Clc operand r bytes = with_p r (put_flag Carry false r.p)
effect_on m Sec operand r bytes = with_p r (put_flag Carry true r.p)
effect_on m Cli operand r bytes = with_p r (put_flag Interrupt false r.p)
effect_on m Sei operand r bytes = with_p r (put_flag Interrupt true r.p)
effect_on m Clv operand r bytes = with_p r (put_flag Overflow false r.p)
effect_on m Cld operand r bytes = with_p r (put_flag Decimal false r.p)
effect_on m Sed operand r bytes = with_p r (put_flag Decimal true r.p)
effect_on m Tax operand r bytes = with_x r (load_of r.a r.p)
effect_on m Txa operand r bytes = with_a r (load_of r.x r.p)
effect_on m Tay operand r bytes = with_y r (load_of r.a r.p)
effect_on m Tya operand r bytes = with_a r (load_of r.y r.p)
effect_on m Tsx operand r bytes = with_x r (load_of r.s r.p)
effect_on m Txs operand r bytes = record r { s = r.x }
effect_on m Inx operand r bytes = with_x r (inc_of r.x r.p)
effect_on m Iny operand r bytes = with_y r (inc_of r.y r.p)
effect_on m Dex operand r bytes = with_x r (dec_of r.x r.p)
effect_on m Dey operand r bytes = with_y r (dec_of r.y r.p)
effect_on m Bpl operand r bytes = after_branch Bpl operand r
effect_on m Bmi operand r bytes = after_branch Bmi operand r
effect_on m Bvc operand r bytes = after_branch Bvc operand r
effect_on m Bvs operand r bytes = after_branch Bvs operand r
effect_on m Bcc operand r bytes = after_branch Bcc operand r
effect_on m Bcs operand r bytes = after_branch Bcs operand r
effect_on m Bne operand r bytes = after_branch Bne operand r
effect_on m Beq operand r bytes = after_branch Beq operand r
-- the stores and NOP change no register
effect_on m Sta operand r bytes = r
effect_on m Stx operand r bytes = r
effect_on m Sty operand r bytes = r
effect_on m Nop operand r bytes = r

-- What an operation does to the registers, which have the next instruction's address.
abbrev pub effect : Operation → Operand → Registers → List ℕ → Registers
effect operation operand r bytes =
    effect_on (operand_value operand r.a bytes) operation operand r bytes

-- The registers after an instruction that read some bytes.
abbrev pub registers_after : Instruction → Registers → List ℕ → Registers
registers_after i r bytes =
    effect i.row.operation i.operand (with_pc r ((r.pc + length_of i.row.mode) % 65536)) bytes
