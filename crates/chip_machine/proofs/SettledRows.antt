-- How the instructions of the table access a bus: each reads in its first two cycles at least, then
-- some write once, or twice in one place, or push two or three bytes, and after that all read.
use Rattle.std.proofs.Common.{◌≡◌, ℕ, ◌+◌, Bool, true, false, List, [], ◌∷◌, ◌++◌, Option, Some, None, Ok, refl}
use Rattle.std.specs.Prelude.{Err, fold, if◌then◌else◌}
use Rattle.std.specs.List.{list_all}
use Rattle.std.proofs.lemmas.Bool.{and_parts, cond_both}
use Rattle.mos_cpu.specs.Accesses.{RegisterA, RegisterP, ReturnHigh, ReturnLow}
use Rattle.mos_cpu.specs.Accesses.{Use, Nothing, Branches, Reads, Stores, Modifies, Pushes, Pulls, use_of}
use Rattle.mos_cpu.specs.Opcodes.{row_of}
use Rattle.mos_cpu.specs.Registers.{Registers, after_pushes}
use Rattle.mos_cpu.specs.declared.fault.CpuFault.{CpuFault}
use Rattle.mos_cpu.specs.declared.fault.CpuFault.TheVariants.{FetchOutside}
use Rattle.mos_cpu.specs.declared.mode.Mode.{Mode}
use Rattle.mos_cpu.specs.declared.mode.Mode.TheVariants.{Implied, Accumulator, Immediate, ZeroPage, ZeroPageX, ZeroPageY}
use Rattle.mos_cpu.specs.declared.mode.Mode.TheVariants.{Absolute, AbsoluteX, AbsoluteY, Relative, Indirect, IndirectX, IndirectY}
use Rattle.mos_cpu.specs.declared.opcode_row.Row.{Row}
use Rattle.mos_cpu.specs.declared.operation.Operation.{Operation}
use Rattle.mos_cpu.specs.declared.operation.Operation.TheVariants.{Brk, Jmp, Jsr, Pha, Php, Pla, Plp, Rti, Rts}
use Rattle.bus_cycles.specs.Addresses.{Seen, opcode_seen}
use Rattle.bus_cycles.specs.Buses.{Meaning}
use Rattle.bus_cycles.specs.Cycles.{When, Always, Across, Taken, TakenAcross, Source, Held, Loaded, Changed}
use Rattle.bus_cycles.specs.Cycles.{Lines, Program, Zero, PointerLow, PointerHigh, Effective, Uncarried, Pushed, Pulled, Returned}
use Rattle.bus_cycles.specs.Cycles.{Cycle, Fetch, Discard, Point, Read, Write, address_cycles, reading_cycles, changing_cycles, cycles_by, cycles_of}
use Rattle.bus_cycles.specs.Execution.{Run, Under, Ended, is_made, after_made, after_cycle, step_after, run_of, step_by_row, step_of}
use Rattle.bus_cycles.specs.declared.bus.Purpose.{Purpose}
use Rattle.bus_cycles.specs.declared.bus.Purpose.TheVariants.{Code, Pointer, Data, Discarded}

-- cycles that write nothing, and those of them that are always made
abbrev is_reading : Cycle → Bool
is_reading (Write lines source) = false
is_reading other = true

abbrev is_certain : Cycle → Bool
is_certain Fetch = true
is_certain (Discard Always lines) = true
is_certain (Point lines) = true
is_certain (Read lines) = true
is_certain other = false

-- A bus is `Early` once the opcode was fetched, `Ready` after one read more, and `Done` is what is to
-- be shown of it.
module _ {B : Type 0} (m : Meaning B) (Early Ready Done : B → Type 0)
    (early-read : (s : B) (purpose : Purpose) (at : ℕ) → Early s → Ready (m.after_read s purpose at))
    (ready-read : (s : B) (purpose : Purpose) (at : ℕ) → Ready s → Ready (m.after_read s purpose at))
    (done-read : (s : B) (purpose : Purpose) (at : ℕ) → Done s → Done (m.after_read s purpose at))
    (early-done : (s : B) → Early s → Done s)
    (ready-done : (s : B) → Ready s → Done s)
    (written : (s : B) (at v : ℕ) → Ready s → Done (m.after_write s at v))
    (written_twice : (s : B) (at v w : ℕ) → Ready s → Done (m.after_write (m.after_write s at v) at w))
    (pushed_twice : (s : B) (stack v w : ℕ) → Ready s
    → Done (m.after_write (m.after_write s (256 + after_pushes stack 0) v) (256 + after_pushes stack 1) w))
    (pushed_thrice : (s : B) (stack v w x : ℕ) → Ready s
    → Done (m.after_write (m.after_write (m.after_write s (256 + after_pushes stack 0) v) (256 + after_pushes stack 1) w)
    (256 + after_pushes stack 2) x)) where
  -- what is so of the bus of an instruction on its way
  abbrev Holds : (B → Type 0) → Run B → Type 0
  Holds Fact (Under s n seen) = Fact s
  Holds Fact (Ended s fault) = Unit {0}

  module _ (row : Row) (r : Registers) where
    -- ---- reads
    read-leads : (Before After : B → Type 0) → ((s : B) (purpose : Purpose) (at : ℕ) → Before s → After (m.after_read s purpose at))
        → (s : B) (n : ℕ) (seen : Seen) (cycle : Cycle) → is_certain cycle ≡ true → Before s → Holds After (after_made m row r s n seen cycle)
    read-leads Before After leads s n seen Fetch e h = cond_both (m.holds_code s _) _ _ (Holds After) (λ _. leads s Code _ h) (λ _. tt)
    read-leads Before After leads s n seen (Discard Always lines) e h = leads s Discarded _ h
    read-leads Before After leads s n seen (Point lines) e h = leads s Pointer _ h
    read-leads Before After leads s n seen (Read lines) e h = leads s Data _ h
    read-leads Before After leads s n seen other e h = absurd (cc)

    read-stays : (Fact : B → Type 0) → ((s : B) (purpose : Purpose) (at : ℕ) → Fact s → Fact (m.after_read s purpose at))
        → (s : B) (n : ℕ) (seen : Seen) (cycle : Cycle) → is_reading cycle ≡ true → Fact s → Holds Fact (after_made m row r s n seen cycle)
    read-stays Fact stays s n seen Fetch e h = cond_both (m.holds_code s _) _ _ (Holds Fact) (λ _. stays s Code _ h) (λ _. tt)
    read-stays Fact stays s n seen (Discard when lines) e h =
        cond_both (is_made when row r seen) _ _ (Holds Fact) (λ _. stays s Discarded _ h) (λ _. h)
    read-stays Fact stays s n seen (Point lines) e h = stays s Pointer _ h
    read-stays Fact stays s n seen (Read lines) e h = stays s Data _ h
    read-stays Fact stays s n seen (Write lines source) e h = absurd (cc)

    -- what is so after these cycles
    abbrev Leads : (B → Type 0) → List Cycle → Run B → Type 0
    Leads Fact cycles run = Holds Fact (fold (after_cycle m row r) run cycles)

    ended : (Fact : B → Type 0) (cycles : List Cycle) (s : B) (fault : CpuFault) → Leads Fact cycles (Ended s fault)
    ended Fact [] s fault = tt
    ended Fact (cycle ∷ cycles) s fault = ended Fact cycles s fault

    -- a run that has come to a fact, and what follows
    on : (Before After : B → Type 0) (cycles : List Cycle) → ((s : B) (n : ℕ) (seen : Seen) → Before s → Leads After cycles (Under s n seen))
        → (run : Run B) → Holds Before run → Leads After cycles run
    on Before After cycles later (Under s n seen) h = later s n seen h
    on Before After cycles later (Ended s fault) h = ended After cycles s fault

    -- cycles from a bus that is ready, or early
    abbrev FromReady : List Cycle → Type 0
    FromReady cycles = (s : B) (n : ℕ) (seen : Seen) → Ready s → Leads Done cycles (Under s n seen)

    abbrev FromEarly : List Cycle → Type 0
    FromEarly cycles = (s : B) (n : ℕ) (seen : Seen) → Early s → Leads Done cycles (Under s n seen)

    -- A bus that is done stays so along reads.
    done-reads : (cycles : List Cycle) → list_all is_reading cycles ≡ true → (run : Run B) → Holds Done run → Leads Done cycles run
    done-reads [] e run h = h
    done-reads (cycle ∷ cycles) e run h =
        let parts = and_parts (is_reading cycle) (list_all is_reading cycles) e in
        on Done Done (cycle ∷ cycles)
        (λ s n seen done. done-reads cycles parts.1 _ (read-stays Done done-read s n seen cycle parts.0 done)) run h

    ready-reads : (before rest : List Cycle) → list_all is_reading before ≡ true → FromReady rest → FromReady (before ++ rest)
    ready-reads [] rest e later = later
    ready-reads (cycle ∷ before) rest e later = λ s n seen h.
        let parts = and_parts (is_reading cycle) (list_all is_reading before) e in
        on Ready Done (before ++ rest) (ready-reads before rest parts.1 later) _ (read-stays Ready ready-read s n seen cycle parts.0 h)

    early-first : (cycle : Cycle) (rest : List Cycle) → is_certain cycle ≡ true → FromReady rest → FromEarly (cycle ∷ rest)
    early-first cycle rest e later = λ s n seen h. on Ready Done rest later _ (read-leads Early Ready early-read s n seen cycle e h)

    early-reads : (cycle : Cycle) (before rest : List Cycle) → is_certain cycle ≡ true → list_all is_reading before ≡ true → FromReady rest
        → FromEarly (cycle ∷ (before ++ rest))
    early-reads cycle before rest e f later = early-first cycle (before ++ rest) e (ready-reads before rest f later)

    -- ---- cycles that end an instruction
    none : FromReady []
    none s n seen h = ready-done s h

    once : (lines : Lines) (source : Source) (after : List Cycle) → list_all is_reading after ≡ true → FromReady (Write lines source ∷ after)
    once lines source after e = λ s n seen h. done-reads after e _ (written s _ _ h)

    twice : (lines : Lines) (first second : Source) (after : List Cycle) → list_all is_reading after ≡ true
        → FromReady (Write lines first ∷ Write lines second ∷ after)
    twice lines first second after e = λ s n seen h. done-reads after e _ (written_twice s _ _ _ h)

    two_pushes : (first second : Source) (after : List Cycle) → list_all is_reading after ≡ true
        → FromReady (Write (Pushed 0) first ∷ Write (Pushed 1) second ∷ after)
    two_pushes first second after e = λ s n seen h. done-reads after e _ (pushed_twice s r.s _ _ h)

    three_pushes : (first second third : Source) (after : List Cycle) → list_all is_reading after ≡ true
        → FromReady (Write (Pushed 0) first ∷ Write (Pushed 1) second ∷ Write (Pushed 2) third ∷ after)
    three_pushes first second third after e = λ s n seen h. done-reads after e _ (pushed_thrice s r.s _ _ _ h)

    -- ---- the rows
    -- the cycles that find an operand: the first of them is made always
    addressed : (when : When) (mode : Mode) (rest : List Cycle) → FromReady rest → FromEarly (address_cycles when mode ++ rest)
    addressed when ZeroPage rest h = early-first Fetch rest refl h
    addressed when ZeroPageX rest h = early-reads Fetch (Discard Always Zero ∷ []) rest refl refl h
    addressed when ZeroPageY rest h = early-reads Fetch (Discard Always Zero ∷ []) rest refl refl h
    addressed when Absolute rest h = early-reads Fetch (Fetch ∷ []) rest refl refl h
    addressed when AbsoluteX rest h = early-reads Fetch (Fetch ∷ Discard when Uncarried ∷ []) rest refl refl h
    addressed when AbsoluteY rest h = early-reads Fetch (Fetch ∷ Discard when Uncarried ∷ []) rest refl refl h
    addressed when IndirectX rest h = early-reads Fetch (Discard Always Zero ∷ Point PointerLow ∷ Point PointerHigh ∷ []) rest refl refl h
    addressed when IndirectY rest h = early-reads Fetch (Point PointerLow ∷ Point PointerHigh ∷ Discard when Uncarried ∷ []) rest refl refl h
    addressed when Indirect rest h = early-reads Fetch (Fetch ∷ Point PointerLow ∷ Point PointerHigh ∷ []) rest refl refl h
    addressed when Immediate rest h = early-first Fetch rest refl h
    addressed when Relative rest h = early-first Fetch rest refl h
    addressed when Implied rest h = early-first (Discard Always Program) rest refl h
    addressed when Accumulator rest h = early-first (Discard Always Program) rest refl h

    found : (when : When) (mode : Mode) → FromEarly (address_cycles when mode)
    found when Implied = addressed when Implied [] none
    found when ZeroPage = addressed when ZeroPage [] none
    found when other = addressed when other [] none

    reads : (mode : Mode) → FromEarly (reading_cycles mode)
    reads Immediate = early-first Fetch [] refl none
    reads other = addressed Across other (Read Effective ∷ []) (ready-reads (Read Effective ∷ []) [] refl none)

    changes : (mode : Mode) → FromEarly (changing_cycles mode)
    changes Accumulator = early-first (Discard Always Program) [] refl none
    changes other =
        addressed Always other (Read Effective ∷ Write Effective Loaded ∷ Write Effective Changed ∷ [])
        (ready-reads (Read Effective ∷ []) (Write Effective Loaded ∷ Write Effective Changed ∷ []) refl (twice Effective Loaded Changed [] refl))

    by_use : (used : Use) (mode : Mode) → FromEarly (cycles_by used mode)
    by_use Reads mode = reads mode
    by_use (Stores what) mode = addressed Always mode (Write Effective (Held what) ∷ []) (once Effective (Held what) [] refl)
    by_use (Modifies change) mode = changes mode
    by_use (Branches flag on) mode = early-reads Fetch (Discard Taken Program ∷ Discard TakenAcross Uncarried ∷ []) [] refl refl none
    by_use Nothing mode = found Always mode
    by_use (Pushes held) mode = λ s n seen h. early-done s h
    by_use (Pulls pulled) mode = λ s n seen h. early-done s h

    by_row : (operation : Operation) (mode : Mode) → FromEarly (cycles_of operation mode)
    by_row Pha mode = early-reads (Discard Always Program) [] (Write (Pushed 0) (Held RegisterA) ∷ []) refl refl (once (Pushed 0) (Held RegisterA) [] refl)
    by_row Php mode = early-reads (Discard Always Program) [] (Write (Pushed 0) (Held RegisterP) ∷ []) refl refl (once (Pushed 0) (Held RegisterP) [] refl)
    by_row Pla mode = early-reads (Discard Always Program) (Discard Always (Pulled 0) ∷ Read (Pulled 1) ∷ []) [] refl refl none
    by_row Plp mode = early-reads (Discard Always Program) (Discard Always (Pulled 0) ∷ Read (Pulled 1) ∷ []) [] refl refl none
    by_row Jsr mode =
        early-reads Fetch (Discard Always (Pushed 0) ∷ []) (Write (Pushed 0) (Held ReturnHigh) ∷ Write (Pushed 1) (Held ReturnLow) ∷ Fetch ∷ [])
        refl refl (two_pushes (Held ReturnHigh) (Held ReturnLow) (Fetch ∷ []) refl)
    by_row Rts mode =
        early-reads (Discard Always Program) (Discard Always (Pulled 0) ∷ Read (Pulled 1) ∷ Read (Pulled 2) ∷ Discard Always Returned ∷ []) []
        refl refl none
    by_row Rti mode =
        early-reads (Discard Always Program) (Discard Always (Pulled 0) ∷ Read (Pulled 1) ∷ Read (Pulled 2) ∷ Read (Pulled 3) ∷ []) []
        refl refl none
    by_row Brk mode =
        early-first (Discard Always Program)
        (Write (Pushed 0) (Held ReturnHigh) ∷ Write (Pushed 1) (Held ReturnLow) ∷ Write (Pushed 2) (Held RegisterP)
        ∷ Point PointerLow ∷ Point PointerHigh ∷ [])
        refl (three_pushes (Held ReturnHigh) (Held ReturnLow) (Held RegisterP) (Point PointerLow ∷ Point PointerHigh ∷ []) refl)
    by_row Jmp mode = found Always mode
    by_row other mode = by_use (use_of other) mode

  -- ---- an instruction
  after-done : (row : Row) (r : Registers) (n : ℕ) (run : Run B) → Holds Done run → (step_after row r run).answer ≡ Ok n
      → Done (step_after row r run).bus
  after-done row r n (Under s k seen) h e = h
  after-done row r n (Ended s fault) h e = absurd (cc)

  row-done : (r : Registers) (s : B) (opcode n : ℕ) (row : Option Row) → Early s → (step_by_row m r s opcode row).answer ≡ Ok n
      → Done (step_by_row m r s opcode row).bus
  row-done r s opcode n (Some row) h e =
      after-done row r n (run_of m r s opcode row) (by_row row r row.operation row.mode s 1 (opcode_seen opcode) h) e
  row-done r s opcode n None h e = absurd (cc)

  -- An instruction that takes cycles leaves a bus that is done.
  pub step-done : (r : Registers) (s : B) (n : ℕ) → (step_of m r s).answer ≡ Ok n → Early (m.after_read s Code r.pc) → Done (step_of m r s).bus
  step-done r s n answer h = by (m.holds_code s r.pc) answer
    where
      by : (holds : Bool)
          → (let step = if holds then step_by_row m r (m.after_read s Code r.pc) (m.read_value s r.pc) (row_of (m.read_value s r.pc))
          else record { answer = Err (FetchOutside r.pc); registers = r; bus = s } in
          step.answer ≡ Ok n → Done step.bus)
      by true e = row-done r (m.after_read s Code r.pc) (m.read_value s r.pc) n (row_of (m.read_value s r.pc)) h e
      by false e = absurd (cc)
