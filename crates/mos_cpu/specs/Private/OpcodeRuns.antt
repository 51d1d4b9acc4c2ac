-- What the runs of opcodes stand on: an opcode's row and operand, each known by itself, and how an
-- operation uses its operand. This project's own, for proofs alone: no public contract names them.
use Rattle.std.specs.Prelude.{ℕ, ◌≡◌, ◌+◌, ◌%◌, Bool, false, not, ◌==◌, ◌||◌, if◌then◌else◌, List}
use Rattle.std.specs.Prelude.{[], Option, Some, None, Result, Ok, Err, IsErr, slice_index}
use Rattle.mos_cpu.specs.Accesses.{StoredByte, Nothing, Reads, Stores, Modifies, use_of}
use Rattle.mos_cpu.specs.Accesses.{accesses_by, is_taken}
use Rattle.mos_cpu.specs.Buses.{Meaning}
use Rattle.mos_cpu.specs.Effects.{changed_of, target_of, with_a, with_p, with_pc, effect}
use Rattle.mos_cpu.specs.Execution.{step_of}
use Rattle.mos_cpu.specs.Opcodes.{row_of, row_with}
use Rattle.mos_cpu.specs.Operands.{Operand, Register, Value, Place, and_then, instruction_byte}
use Rattle.mos_cpu.specs.Operands.{row_or_fault, operand_by_mode, length_of, takes_vector}
use Rattle.mos_cpu.specs.Operands.{instruction_at}
use Rattle.mos_cpu.specs.Registers.{Registers}
use Rattle.mos_cpu.specs.declared.addressing.Target.{Target}
use Rattle.mos_cpu.specs.declared.fault.CpuFault.{CpuFault}
use Rattle.mos_cpu.specs.declared.fault.CpuFault.TheVariants.{BadOpcode, FetchOutside}
use Rattle.mos_cpu.specs.declared.opcode_row.Row.{Row}
use Rattle.mos_cpu.specs.declared.operation.Operation.{Operation}
use Rattle.mos_cpu.specs.declared.mode.Mode.{Mode}

-- The row of the opcode at the program counter, or the fault that none is there.
abbrev pub row_here : {S : Type 0} → Meaning S → S → Registers → Result Row CpuFault
row_here m s r =
    and_then (instruction_byte m s r.pc) (λ opcode. row_or_fault (row_of opcode) opcode r.pc)

-- The opcode that isn't documented, if that is the fault.
abbrev pub undocumented : Result Row CpuFault → Option ℕ
undocumented (Err (BadOpcode opcode at)) = Some opcode
undocumented other = None

-- The fault at an address: that this opcode isn't documented, or that no byte is there.
abbrev pub fault_by : Option ℕ → ℕ → CpuFault
fault_by (Some opcode) at = BadOpcode opcode at
fault_by None at = FetchOutside at

-- The row of the opcode at the program counter is this one.
abbrev pub IsRow : {S : Type 0} → Meaning S → S → Registers → Operation → Mode → ℕ → Bool → Type 0
IsRow m s r operation mode cycles crossing =
    ◌≡◌ {A = Result Row CpuFault} (row_here m s r) (Ok (row_with operation mode cycles crossing))

-- The byte after the opcode is this one.
abbrev pub IsLow : {S : Type 0} → Meaning S → S → Registers → ℕ → Type 0
IsLow m s r low = m.peeked s ((r.pc + 1) % 65536) ≡ Some low

-- Whether an opcode is one with a byte after it, by its bits. Of opcodes that aren't documented it
-- says nothing.
abbrev pub has_low : ℕ → Bool
has_low opcode =
    not (opcode % 16 == 8 || opcode % 16 == 10 || opcode == 0 || opcode == 64 || opcode == 96)

-- A mode names this place.
pub record IsTarget {S : Type 0} (m : Meaning S) (s : S) (r : Registers) (mode : Mode) (t : Target) : Type 0 where
  pub named : ◌≡◌ {A = Result Operand CpuFault} (operand_by_mode m s r mode) (Ok (Place t.address t.crossed))
  pub next : t.next ≡ (r.pc + length_of mode) % 65536

-- The place that a mode names, or none if a byte of the instruction isn't there.
abbrev pub IsNamed : {S : Type 0} → Meaning S → S → Registers → Mode → Option Target → Type 0
IsNamed m s r mode (Some target) = IsTarget m s r mode target
IsNamed m s r mode None = IsErr (operand_by_mode m s r mode)

-- A step answers these cycles, and leaves these registers and this bus.
abbrev pub IsStepOf : {S : Type 0} → Meaning S → Registers → S → ℕ → Registers → S → Type 0
IsStepOf m r s cycles after bus =
    step_of m r s ≡ record { answer = Ok cycles; registers = after; bus = bus }

-- A step is a fault, and nothing was done.
pub record IsUndone {S : Type 0} (m : Meaning S) (r : Registers) (s : S) (after : Registers) (bus : S) : Type 0 where
  pub registers : after ≡ r
  pub bus_state : bus ≡ s
  pub fault : IsErr (instruction_at m s r)

-- The run of an opcode answers and leaves what a step does, or has no answer if it is a fault.
abbrev pub IsOpcodeRun : {S : Type 0} → Meaning S → Registers → S → Option ℕ → Registers → S → Type 0
IsOpcodeRun m r s (Some cycles) after bus = IsStepOf m r s cycles after bus
IsOpcodeRun m r s None after bus = IsUndone m r s after bus

-- An operation that reads its operand, and does with a byte of memory what it does with one of the
-- instruction.
pub record IsReader (o : Operation) : Type 0 where
  pub used : use_of o ≡ Reads
  pub plain : takes_vector o ≡ false
  pub same : (address : ℕ) (crossed : Bool) (r : Registers) (bytes : List ℕ)
      → effect o (Place address crossed) r bytes ≡ effect o (Value (slice_index bytes 0)) r []

-- An operation that stores, and does nothing else.
pub record IsStorer (o : Operation) (what : StoredByte) : Type 0 where
  pub used : use_of o ≡ Stores what
  pub plain : takes_vector o ≡ false
  pub idle : (operand : Operand) (r : Registers) (bytes : List ℕ) → effect o operand r bytes ≡ r

-- An operation that changes its operand, in memory or in A.
pub record IsChanger (o : Operation) : Type 0 where
  pub used : use_of o ≡ Modifies (changed_of o)
  pub plain : takes_vector o ≡ false
  pub in_memory : (address : ℕ) (crossed : Bool) (r : Registers) (bytes : List ℕ)
      → effect o (Place address crossed) r bytes ≡ with_p r (changed_of o (slice_index bytes 0) r.p).p
  pub in_a : (r : Registers) (bytes : List ℕ) → effect o Register r bytes ≡ with_a r (changed_of o r.a r.p)

-- An operation that goes elsewhere if its test is met.
pub record IsBranch (o : Operation) : Type 0 where
  pub untouched : (operand : Operand) (r : Registers) (cycles : ℕ) → accesses_by (use_of o) operand r cycles ≡ []
  pub plain : takes_vector o ≡ false
  pub goes : (operand : Operand) (r : Registers) (bytes : List ℕ)
      → effect o operand r bytes ≡ (if is_taken o r.p then with_pc r (target_of operand) else r)

-- An operation that touches no memory.
pub record IsImplied (o : Operation) : Type 0 where
  pub used : use_of o ≡ Nothing
  pub plain : takes_vector o ≡ false
