-- What the cycles that find an operand leave. For proofs alone: no public contract names it.
use Rattle.std.specs.Prelude.{ℕ, ◌≡◌, ◌+◌, ◌%◌, Bool, true, false, ◌||◌, [], ◌∷◌, fold, Result, Ok, Err, if◌then◌else◌}
use Rattle.mos_cpu.specs.Accesses.{has_crossed}
use Rattle.mos_cpu.specs.Effects.{target_of}
use Rattle.mos_cpu.specs.Operands.{Operand}
use Rattle.mos_cpu.specs.Registers.{Registers}
use Rattle.mos_cpu.specs.declared.fault.CpuFault.{CpuFault}
use Rattle.mos_cpu.specs.declared.opcode_row.Row.{Row}
use Rattle.mos_cpu.specs.declared.mode.Mode.{Mode}
use Rattle.mos_cpu.specs.declared.mode.Mode.TheVariants.{Implied, Accumulator, Immediate, ZeroPageX, ZeroPageY}
use Rattle.mos_cpu.specs.declared.mode.Mode.TheVariants.{Absolute, AbsoluteX, AbsoluteY, Relative, Indirect, IndirectX, IndirectY}
use Rattle.bus_cycles.specs.Addresses.{Seen, opcode_seen, operand_by}
use Rattle.bus_cycles.specs.Buses.{Meaning}
use Rattle.bus_cycles.specs.Cycles.{When, Always, Across, address_cycles}
use Rattle.bus_cycles.specs.Execution.{Run, Under, Ended, after_cycle, run_of, step_after}
use Rattle.bus_cycles.specs.declared.finding.Found.{Found}
use Rattle.bus_cycles.specs.declared.held.HeldBytes.{HeldBytes}

-- The bytes that are seen once the operand of a mode was found.
abbrev pub two_seen : HeldBytes → Seen
two_seen held = record { fetched = held.opcode ∷ held.low ∷ []; pointer = []; read = [] }

abbrev pub three_seen : HeldBytes → Seen
three_seen held = record { fetched = held.opcode ∷ held.low ∷ held.high ∷ []; pointer = []; read = [] }

abbrev pub with_pointer : HeldBytes → Seen → Seen
with_pointer held seen = record seen { pointer = held.pointer_low ∷ held.pointer_high ∷ [] }

abbrev pub seen_by : Mode → HeldBytes → Seen
seen_by Implied held = opcode_seen held.opcode
seen_by Accumulator held = opcode_seen held.opcode
seen_by Absolute held = three_seen held
seen_by AbsoluteX held = three_seen held
seen_by AbsoluteY held = three_seen held
seen_by Indirect held = with_pointer held (three_seen held)
seen_by IndirectX held = with_pointer held (two_seen held)
seen_by IndirectY held = with_pointer held (two_seen held)
seen_by other held = two_seen held

-- Modes that name a place in memory, and those that may leave the page of their base.
abbrev pub is_place : Mode → Bool
is_place Implied = false
is_place Accumulator = false
is_place Immediate = false
is_place Relative = false
is_place Indirect = false
is_place other = true

-- Modes whose operand has to be found: those, and that of a jump by a pointer.
abbrev pub is_found : Mode → Bool
is_found Indirect = true
is_found mode = is_place mode

abbrev pub is_indexed : Mode → Bool
is_indexed AbsoluteX = true
is_indexed AbsoluteY = true
is_indexed IndirectY = true
is_indexed other = false

-- How many cycles are over once an operand was found, with that of the opcode.
abbrev pub time_before : Mode → ℕ
time_before ZeroPageX = 3
time_before ZeroPageY = 3
time_before Absolute = 3
time_before AbsoluteX = 3
time_before AbsoluteY = 3
time_before Indirect = 5
time_before IndirectX = 5
time_before IndirectY = 4
time_before other = 2

abbrev pub one_if : Bool → ℕ
one_if b = if b then 1 else 0

abbrev pub time_of : Bool → Mode → Operand → ℕ
time_of always mode operand = time_before mode + (if is_indexed mode then one_if (always || has_crossed operand) else 0)

abbrev pub when_of : Bool → When
when_of always = if always then Always else Across

-- The cycles that find an operand, from the one after the opcode's.
abbrev pub finding : {S : Type 0} → Meaning S → Row → Registers → S → ℕ → Bool → Run S
finding m row r s opcode always =
    fold (after_cycle m row r) (Under s 1 (opcode_seen opcode)) (address_cycles (when_of always) row.mode)

-- Where the held pointer is.
abbrev pub IsPlaced : Mode → Registers → HeldBytes → Type 0
IsPlaced IndirectX r held = held.place ≡ (held.low + r.x) % 256
IsPlaced IndirectY r held = held.place ≡ held.low
IsPlaced other r held = Unit {0}

-- The bytes that are held are those of the instruction at the program counter.
pub record IsHeld (row : Row) (r : Registers) (opcode : ℕ) (held : HeldBytes) : Type 0 where
  pub at : held.at ≡ r.pc
  pub opcode_is : held.opcode ≡ opcode
  pub placed : IsPlaced row.mode r held

-- An operand that was found, and the bus after it.
pub record IsFound {S : Type 0} (m : Meaning S) (row : Row) (r : Registers) (s : S) (opcode : ℕ) (always : Bool) (found : Found) (after : S) : Type 0 where
  pub held : IsHeld row r opcode found.held
  pub run : finding m row r s opcode always
      ≡ Under after (time_of always row.mode (operand_by row.mode r (seen_by row.mode found.held))) (seen_by row.mode found.held)
  pub address : found.address ≡ target_of (operand_by row.mode r (seen_by row.mode found.held))

-- The same, or a byte of the program that can't be fetched.
abbrev pub IsSearch : {S : Type 0} → Meaning S → Row → Registers → S → ℕ → Bool → Result Found CpuFault → S → Type 0
IsSearch m row r s opcode always (Ok found) after = IsFound m row r s opcode always found after
IsSearch m row r s opcode always (Err fault) after = finding m row r s opcode always ≡ Ended after fault

-- An instruction whose opcode was fetched answers this, and leaves these registers and this bus.
abbrev pub IsRun : {S : Type 0} → Meaning S → Registers → S → ℕ → Row → Result ℕ CpuFault → Registers → S → Type 0
IsRun m r s opcode row answer registers after =
    step_after row r (run_of m r s opcode row) ≡ record { answer = answer; registers = registers; bus = after }
