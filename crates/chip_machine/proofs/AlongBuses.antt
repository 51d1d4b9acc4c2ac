-- An instruction goes alike on two buses where one follows the other.
use Rattle.std.proofs.Common.{◌≡◌, ℕ, Bool, true, false, List, [], ◌∷◌, Option, Some, None, refl, ap, ◌∙◌}
use Rattle.std.specs.Prelude.{fold, if◌then◌else◌}
use Rattle.mos_cpu.specs.Execution.{map_step}
use Rattle.mos_cpu.specs.Opcodes.{row_of}
use Rattle.mos_cpu.specs.Registers.{Registers}
use Rattle.mos_cpu.specs.declared.opcode_row.Row.{Row}
use Rattle.bus_cycles.specs.Addresses.{Seen, opcode_seen, address_on}
use Rattle.bus_cycles.specs.Buses.{Meaning}
use Rattle.bus_cycles.specs.Cycles.{Cycle, Fetch, Discard, Point, Read, Write, Program, cycles_of}
use Rattle.bus_cycles.specs.Execution.{Run, Under, Ended, after_made, after_cycle, is_made, step_after, run_of, step_by_row, step_of}
use Rattle.bus_cycles.specs.declared.bus.Purpose.{Purpose}
use Rattle.bus_cycles.specs.declared.bus.Purpose.TheVariants.{Code, Pointer, Data, Discarded}

-- What a call of one bus answers and leaves is what the same call of the other does.
pub record Respects {B C : Type 0} (b : Meaning B) (c : Meaning C) (h : B → C) : Type 0 where
  pub holds_code : (s : B) (at : ℕ) → c.holds_code (h s) at ≡ b.holds_code s at
  pub read_value : (s : B) (at : ℕ) → c.read_value (h s) at ≡ b.read_value s at
  pub after_read : (s : B) (purpose : Purpose) (at : ℕ) → c.after_read (h s) purpose at ≡ h (b.after_read s purpose at)
  pub after_write : (s : B) (at byte : ℕ) → c.after_write (h s) at byte ≡ h (b.after_write s at byte)

-- a choice goes along a map
pub choice-along : {A D : Type 0} (f : A → D) (t : Bool) (x y : A) → (if t then f x else f y) ≡ f (if t then x else y)
choice-along f true x y = refl
choice-along f false x y = refl

module _ {B C : Type 0} (b : Meaning B) (c : Meaning C) (h : B → C) (keeps : Respects b c h) where
  abbrev along : Run B → Run C
  along (Under s n seen) = Under (h s) n seen
  along (Ended s fault) = Ended (h s) fault

  made-along : (row : Row) (r : Registers) (s : B) (n : ℕ) (seen : Seen) (cycle : Cycle)
      → after_made c row r (h s) n seen cycle ≡ along (after_made b row r s n seen cycle)
  made-along row r s n seen Fetch =
      let at = address_on Program row r seen in
      rw (keeps.holds_code s at, keeps.read_value s at, keeps.after_read s Code at) (choice-along along (b.holds_code s at) _ _)
  made-along row r s n seen (Discard when lines) =
      rw (keeps.after_read s Discarded (address_on lines row r seen)) (choice-along along (is_made when row r seen) _ _)
  made-along row r s n seen (Point lines) =
      let at = address_on lines row r seen in rw (keeps.read_value s at, keeps.after_read s Pointer at) refl
  made-along row r s n seen (Read lines) =
      let at = address_on lines row r seen in rw (keeps.read_value s at, keeps.after_read s Data at) refl
  made-along row r s n seen (Write lines source) = simp keeps.after_write

  cycle-along : (row : Row) (r : Registers) (run : Run B) (cycle : Cycle) → after_cycle c row r (along run) cycle ≡ along (after_cycle b row r run cycle)
  cycle-along row r (Under s n seen) cycle = made-along row r s n seen cycle
  cycle-along row r (Ended s fault) cycle = refl

  fold-along : (row : Row) (r : Registers) (run : Run B) (cycles : List Cycle)
      → fold (after_cycle c row r) (along run) cycles ≡ along (fold (after_cycle b row r) run cycles)
  fold-along row r run [] = refl
  fold-along row r run (cycle ∷ cycles) =
      ap (λ (next : Run C). fold (after_cycle c row r) next cycles) (cycle-along row r run cycle)
      ∙ fold-along row r (after_cycle b row r run cycle) cycles

  after-along : (row : Row) (r : Registers) (run : Run B) → step_after row r (along run) ≡ map_step h (step_after row r run)
  after-along row r (Under s n seen) = refl
  after-along row r (Ended s fault) = refl

  row-along : (r : Registers) (s : B) (opcode : ℕ) (row : Option Row) → step_by_row c r (h s) opcode row ≡ map_step h (step_by_row b r s opcode row)
  row-along r s opcode (Some row) =
      ap (step_after row r) (fold-along row r (Under s 1 (opcode_seen opcode)) (cycles_of row.operation row.mode))
      ∙ after-along row r (run_of b r s opcode row)
  row-along r s opcode None = refl

  pub step_of-along : (r : Registers) (s : B) → step_of c r (h s) ≡ map_step h (step_of b r s)
  step_of-along r s =
      let opcode = b.read_value s r.pc in
      rw (
        keeps.holds_code s r.pc,
        keeps.read_value s r.pc,
        keeps.after_read s Code r.pc,
        row-along r (b.after_read s Code r.pc) opcode (row_of opcode),
      )
      (choice-along (map_step h) (b.holds_code s r.pc) _ _)
