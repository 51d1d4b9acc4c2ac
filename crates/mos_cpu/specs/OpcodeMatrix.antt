-- The opcodes that are 1 modulo 4, by the opcode matrix of the MOS MCS6500 programming manual: the
-- high three bits name the operation, and the middle three bits the addressing mode.
use Rattle.std.specs.Prelude.{List, [], ◌∷◌}
use Rattle.mos_cpu.specs.declared.operation.Operation.{Operation}
use Rattle.mos_cpu.specs.declared.operation.Operation.TheVariants.{Ora, And, Eor, Adc, Sta, Lda}
use Rattle.mos_cpu.specs.declared.operation.Operation.TheVariants.{Cmp, Sbc}
use Rattle.mos_cpu.specs.declared.mode.Mode.{Mode}
use Rattle.mos_cpu.specs.declared.mode.Mode.TheVariants.{IndirectX, ZeroPage, Immediate, Absolute}
use Rattle.mos_cpu.specs.declared.mode.Mode.TheVariants.{IndirectY, ZeroPageX, AbsoluteY, AbsoluteX}

-- The operations of the high three bits 000 to 111.
abbrev pub operations_in_order : List Operation
operations_in_order = Ora ∷ And ∷ Eor ∷ Adc ∷ Sta ∷ Lda ∷ Cmp ∷ Sbc ∷ []

-- The addressing modes of the middle three bits 000 to 111.
abbrev pub modes_in_order : List Mode
modes_in_order =
    IndirectX ∷ ZeroPage ∷ Immediate ∷ Absolute ∷ IndirectY ∷ ZeroPageX ∷ AbsoluteY ∷ AbsoluteX ∷ []
