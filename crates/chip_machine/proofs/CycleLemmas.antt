-- A fact of a bus that each access keeps holds after an instruction, and a cycle's first.
use Rattle.std.proofs.Common.{◌≡◌, ℕ, Bool, true, false, List, [], ◌∷◌, Option, Some, None, Ok, Err}
use Rattle.std.specs.Prelude.{fold, if◌then◌else◌}
use Rattle.std.proofs.lemmas.Bool.{cond_both}
use Rattle.mos_cpu.specs.Execution.{Step}
use Rattle.mos_cpu.specs.Opcodes.{row_of}
use Rattle.mos_cpu.specs.Registers.{Registers}
use Rattle.mos_cpu.specs.declared.fault.CpuFault.TheVariants.{FetchOutside}
use Rattle.mos_cpu.specs.declared.opcode_row.Row.{Row}
use Rattle.bus_cycles.specs.Addresses.{Seen, opcode_seen, address_on}
use Rattle.bus_cycles.specs.Buses.{Meaning}
use Rattle.bus_cycles.specs.Cycles.{Cycle, Fetch, Discard, Point, Read, Write, Program, cycles_of}
use Rattle.bus_cycles.specs.Execution.{Run, Under, Ended, after_made, after_cycle, is_made, step_after, run_of, step_by_row, step_of}
use Rattle.bus_cycles.specs.declared.bus.Purpose.{Purpose}
use Rattle.bus_cycles.specs.declared.bus.Purpose.TheVariants.{Code, Pointer, Data, Discarded}

module _ {S : Type 0} (m : Meaning S) (Fact : S → Type 0)
    (reads : (s : S) (purpose : Purpose) (at : ℕ) → Fact s → Fact (m.after_read s purpose at))
    (writes : (s : S) (at byte : ℕ) → Fact s → Fact (m.after_write s at byte)) where
  -- of the bus of an instruction on its way
  abbrev OfRun : Run S → Type 0
  OfRun (Under s n seen) = Fact s
  OfRun (Ended s fault) = Fact s

  made-kept : (row : Row) (r : Registers) (s : S) (n : ℕ) (seen : Seen) (cycle : Cycle) → Fact s → OfRun (after_made m row r s n seen cycle)
  made-kept row r s n seen Fetch fact =
      cond_both (m.holds_code s (address_on Program row r seen)) _ _ OfRun (λ _. reads s Code _ fact) (λ _. fact)
  made-kept row r s n seen (Discard when lines) fact = cond_both (is_made when row r seen) _ _ OfRun (λ _. reads s Discarded _ fact) (λ _. fact)
  made-kept row r s n seen (Point lines) fact = reads s Pointer _ fact
  made-kept row r s n seen (Read lines) fact = reads s Data _ fact
  made-kept row r s n seen (Write lines source) fact = writes s _ _ fact

  cycle-kept : (row : Row) (r : Registers) (run : Run S) (cycle : Cycle) → OfRun run → OfRun (after_cycle m row r run cycle)
  cycle-kept row r (Under s n seen) cycle fact = made-kept row r s n seen cycle fact
  cycle-kept row r (Ended s fault) cycle fact = fact

  cycles-kept : (row : Row) (r : Registers) (cycles : List Cycle) (run : Run S) → OfRun run → OfRun (fold (after_cycle m row r) run cycles)
  cycles-kept row r [] run fact = fact
  cycles-kept row r (cycle ∷ cycles) run fact = cycles-kept row r cycles (after_cycle m row r run cycle) (cycle-kept row r run cycle fact)

  after-kept : (row : Row) (r : Registers) (run : Run S) → OfRun run → Fact (step_after row r run).bus
  after-kept row r (Under s n seen) fact = fact
  after-kept row r (Ended s fault) fact = fact

  row-kept : (r : Registers) (s : S) (opcode : ℕ) (row : Option Row) → Fact s → Fact (step_by_row m r s opcode row).bus
  row-kept r s opcode (Some row) fact =
      after-kept row r (run_of m r s opcode row) (cycles-kept row r (cycles_of row.operation row.mode) (Under s 1 (opcode_seen opcode)) fact)
  row-kept r s opcode None fact = fact

  -- After an instruction whose opcode was fetched, and so after one that took cycles, a fact holds that
  -- holds after that fetch.
  pub step-kept : (r : Registers) (s : S) (n : ℕ) → (step_of m r s).answer ≡ Ok n → Fact (m.after_read s Code r.pc) → Fact (step_of m r s).bus
  step-kept r s n answer fact = by (m.holds_code s r.pc) answer
    where
      by : (let taken = step_by_row m r (m.after_read s Code r.pc) (m.read_value s r.pc) (row_of (m.read_value s r.pc)) in
          let missed : Step S = record { answer = Err (FetchOutside r.pc); registers = r; bus = s } in
          (holds : Bool) → (if holds then taken else missed).answer ≡ Ok n → Fact (if holds then taken else missed).bus)
      by true answer = row-kept r (m.after_read s Code r.pc) (m.read_value s r.pc) (row_of (m.read_value s r.pc)) fact
      by false answer = absurd cc

  -- After any instruction, faulty or not.
  pub bus-kept : (r : Registers) (s : S) → Fact s → Fact (step_of m r s).bus
  bus-kept r s fact = cond_both (m.holds_code s r.pc) _ _ (λ (step : Step S). Fact step.bus)
      (λ _. row-kept r (m.after_read s Code r.pc) (m.read_value s r.pc) (row_of (m.read_value s r.pc)) (reads s Code r.pc fact)) (λ _. fact)
