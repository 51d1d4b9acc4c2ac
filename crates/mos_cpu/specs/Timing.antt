-- When things happen within an instruction. The words are this project's own; what they say follows
-- from the table and the accesses.
use Rattle.std.specs.Prelude.{ℕ, ◌≡◌, ◌≤◌, ◌+◌, map, is_some, if◌then◌else◌, List, [], ◌∷◌}
use Rattle.mos_cpu.specs.Accesses.{Use, Modifies, Pushes, Pulls, use_of, branch_test, accesses_of}
use Rattle.mos_cpu.specs.Accesses.{instruction_cycles}
use Rattle.mos_cpu.specs.Buses.{Meaning, IsClock}
use Rattle.mos_cpu.specs.Execution.{Progress, bus_at, after_access, at_start}
use Rattle.mos_cpu.specs.Registers.{Registers}
use Rattle.mos_cpu.specs.declared.opcode_row.Row.{Row}
use Rattle.mos_cpu.specs.declared.operation.Operation.{Operation}
use Rattle.mos_cpu.specs.Operands.{Instruction}
use Rattle.mos_cpu.specs.declared.access.Access.{Access}

-- The last of some cycles, or one before them.
abbrev pub last_of : ℕ → List ℕ → ℕ
last_of before [] = before
last_of before (cycle ∷ rest) = last_of cycle rest

-- The fewest cycles that have room for some accesses.
abbrev pub least_of : Use → ℕ
least_of (Modifies change) = 2
least_of (Pushes held) = last_of 0 (map (λ h. h.0) held)
least_of (Pulls pulled) = last_of 0 pulled
least_of other = 0

-- The most cycles that an instruction of a row takes.
abbrev pub most_cycles : Row → ℕ
most_cycles row =
    let branching = (if is_some (branch_test row.operation) then 2 else 0) in
    row.cycles + (if row.crossing then 1 else 0) + branching

-- An instruction of a row takes 2 to 7 cycles, which have room for its accesses.
pub record IsTimed (row : Row) : Type 0 where
  pub least : 2 ≤ row.cycles
  pub room : least_of (use_of row.operation) ≤ row.cycles
  pub most : most_cycles row ≤ 7

-- The cycles of accesses don't fall, from one that is over to the last of all.
abbrev pub AscendsTo : ℕ → List Access → ℕ → Type 0
AscendsTo now [] last = now ≤ last
AscendsTo now (access ∷ accesses) last = (now ≤ access.cycle) × AscendsTo access.cycle accesses last

-- What a clock shows at each access in turn.
abbrev pub access_clocks : {S : Type 0} → Meaning S → (S → ℕ) → Operation → ℕ → Progress S
    → List Access → List ℕ
access_clocks m clock operation p progress [] = []
access_clocks m clock operation p progress (access ∷ accesses) =
    clock (bus_at m progress access.cycle) ∷
    access_clocks m clock operation p (after_access m operation p progress access) accesses

-- Each access of an instruction is made when exactly the cycles up to its own have passed, by any
-- clock.
abbrev pub KeepsTime : {S : Type 0} → Meaning S → Registers → S → Instruction → Type 0
KeepsTime {S} m r s i =
    let accesses = accesses_of i r (instruction_cycles i r.p) in
    (advance : ℕ → ℕ → ℕ) (clock : S → ℕ) → IsClock m advance clock
    → access_clocks m clock i.row.operation r.p (at_start s) accesses
    ≡ map (λ access. advance (clock s) access.cycle) accesses
