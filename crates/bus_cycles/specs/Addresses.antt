-- Which addresses the cycles of an instruction drive, by the bytes that the cycles before have read. MOS
-- MCS6500 hardware manual, and for where an operand is its programming manual.
use Rattle.std.specs.Prelude.{ℕ, ◌+◌, ◌*◌, ◌/◌, ◌%◌, false, List, [], ◌∷◌, length, slice_index, if◌then◌else◌}
use Rattle.mos_cpu.specs.Effects.{word_in, target_of}
use Rattle.mos_cpu.specs.Operands.{Operand, Register, Value, Place, indexed_place, branch_target, next_in_page_of, takes_vector}
use Rattle.mos_cpu.specs.Registers.{Registers, after_pushes, after_pulls}
use Rattle.mos_cpu.specs.declared.opcode_row.Row.{Row}
use Rattle.mos_cpu.specs.declared.mode.Mode.{Mode}
use Rattle.mos_cpu.specs.declared.mode.Mode.TheVariants.{Implied, Accumulator, Immediate, ZeroPage, ZeroPageX, ZeroPageY}
use Rattle.mos_cpu.specs.declared.mode.Mode.TheVariants.{Absolute, AbsoluteX, AbsoluteY, Relative, Indirect, IndirectX, IndirectY}
use Rattle.bus_cycles.specs.Cycles.{Lines, Program, Zero, PointerLow, PointerHigh, Effective, Uncarried, Pushed, Pulled, Returned}

-- The bytes that an instruction has read so far.
pub record Seen : Type 0 where
  -- those of the program, its opcode first
  pub fetched : List ℕ
  -- those of a pointer or of the interrupt vector
  pub pointer : List ℕ
  -- those that it read or pulled
  pub read : List ℕ

-- After its opcode was fetched.
abbrev pub opcode_seen : ℕ → Seen
opcode_seen opcode = record { fetched = opcode ∷ []; pointer = []; read = [] }

-- The byte after the opcode, the number of the two bytes after it, and that of a pointer's bytes.
abbrev pub low_byte : Seen → ℕ
low_byte seen = slice_index seen.fetched 1

abbrev pub program_word : Seen → ℕ
program_word seen = word_in seen.fetched 1

abbrev pub pointer_word : Seen → ℕ
pointer_word seen = word_in seen.pointer 0

-- Where the first byte of a pointer is, and of BRK that of the interrupt vector. Indexing in page zero
-- wraps.
abbrev pub pointer_place : Mode → Registers → Seen → ℕ
pointer_place Indirect r seen = program_word seen
pointer_place IndirectX r seen = (low_byte seen + r.x) % 256
pointer_place IndirectY r seen = low_byte seen
pointer_place other r seen = 65534

-- The address to which an index or a branch's offset is added.
abbrev pub base_of : Mode → Registers → Seen → ℕ
base_of IndirectY r seen = pointer_word seen
base_of Relative r seen = (r.pc + 2) % 65536
base_of other r seen = program_word seen

-- The operand by its addressing mode.
abbrev pub operand_by : Mode → Registers → Seen → Operand
operand_by Implied r seen = Register
operand_by Accumulator r seen = Register
operand_by Immediate r seen = Value (low_byte seen)
operand_by ZeroPage r seen = Place (low_byte seen) false
operand_by ZeroPageX r seen = Place ((low_byte seen + r.x) % 256) false
operand_by ZeroPageY r seen = Place ((low_byte seen + r.y) % 256) false
operand_by Absolute r seen = Place (program_word seen) false
operand_by AbsoluteX r seen = indexed_place (program_word seen) r.x
operand_by AbsoluteY r seen = indexed_place (program_word seen) r.y
operand_by Relative r seen = branch_target ((r.pc + 2) % 65536) (low_byte seen)
operand_by Indirect r seen = Place (pointer_word seen) false
operand_by IndirectX r seen = Place (pointer_word seen) false
operand_by IndirectY r seen = indexed_place (pointer_word seen) r.y

-- The operand of an instruction. That of BRK is the interrupt vector.
abbrev pub operand_seen : Row → Registers → Seen → Operand
operand_seen row r seen = if takes_vector row.operation then Place (pointer_word seen) false else operand_by row.mode r seen

-- An address in the page of another one: with its high byte.
abbrev pub in_page_of : ℕ → ℕ → ℕ
in_page_of base address = base / 256 * 256 + address % 256

-- The address on these lines. The registers are those of the instruction's start. The stack is page 1.
abbrev pub address_on : Lines → Row → Registers → Seen → ℕ
address_on Program row r seen = (r.pc + length seen.fetched) % 65536
address_on Zero row r seen = low_byte seen
address_on PointerLow row r seen = pointer_place row.mode r seen
address_on PointerHigh row r seen = next_in_page_of (pointer_place row.mode r seen)
address_on Effective row r seen = target_of (operand_seen row r seen)
address_on Uncarried row r seen = in_page_of (base_of row.mode r seen) (target_of (operand_seen row r seen))
address_on (Pushed n) row r seen = 256 + after_pushes r.s n
address_on (Pulled n) row r seen = 256 + after_pulls r.s n
address_on Returned row r seen = word_in seen.read 0
