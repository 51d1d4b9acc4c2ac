-- The search for a frame's stop, by its next instruction.
use Rattle.std.proofs.Common.{◌≡◌, ℕ, zero, suc, ◌+◌, ◌<◌, ◌≤◌, ◌↔◌, Bool, true, false, refl, sym, arith}
use Rattle.std.specs.Prelude.{IsTrue, Result, Ok, Err, nat_le, if◌then◌else◌}
use Rattle.std.proofs.lemmas.Bool.Decides.{nat_tests}
use Rattle.mos_cpu.specs.Registers.{Registers}
use Rattle.mos_cpu.specs.declared.fault.CpuFault.{CpuFault}
use Rattle.bus_cycles.specs.Execution.{step_of}
use Rattle.chip_machine.specs.Consoles.{Console, after_stop, meaning_of}
use Rattle.chip_machine.specs.Frame.{Machine, Turn, Faulty, Went, Ended, Overlong, Faulted, overlong_cycles}
use Rattle.chip_machine.specs.Frame.{turn, turn_by, stop_after, stop_within, stop_of}
use Rattle.chip_machine.proofs.GrowthLemmas.{step-more, stop-past}

-- Cycles that aren't below a bound.
at-least : (n bound : ℕ) (is : Bool) → nat_le bound n ≡ is → (n < bound → ⊥) → bound ≤ n
at-least n bound true e not = grind (arith, nat_tests)
at-least n bound false e not = let less : n < bound = grind (arith, nat_tests) in absurd (not less)

pub not-below : (n bound : ℕ) (is_below : Bool) → (IsTrue is_below ↔ (n < bound)) → is_below ≡ false → bound ≤ n
not-below n bound is_below is isnt = at-least n bound (nat_le bound n) refl (λ less. let yes = is.1 less in cc)

module _ {S : Type 0} (drawn : S → ℕ → ℕ → ℕ → S) where
  -- An instruction that went.
  pub turn-went : (m : Machine S) (n : ℕ) (r : Registers) (console : Console S)
      → (let step = step_of (meaning_of drawn) m.registers m.console in
      step.answer ≡ Ok n → step.registers ≡ r → step.bus ≡ console
      → turn drawn m ≡ Went (record { registers = r; console = after_stop drawn console }))
  unfolding turn
  turn-went m n r console answer registers bus = rw (answer, registers, bus) refl

  pub turn-faulty : (m : Machine S) (fault : CpuFault)
      → (step_of (meaning_of drawn) m.registers m.console).answer ≡ Err fault → turn drawn m ≡ Faulty fault
  unfolding turn
  turn-faulty m fault answer = rw answer refl

  -- It takes a cycle at least.
  pub turn-more : (m next : Machine S) → m.console.cycles < overlong_cycles → turn drawn m ≡ Went next → m.console.cycles < next.console.cycles
  unfolding turn
  turn-more m next short e = by (step_of (meaning_of drawn) m.registers m.console).answer refl e
    where
      by : (let step = step_of (meaning_of drawn) m.registers m.console in
          (answer : Result ℕ CpuFault) → step.answer ≡ answer → turn_by drawn step.registers step.bus answer ≡ Went next
          → m.console.cycles < next.console.cycles)
      by (Err fault) is went = absurd (cc)
      by (Ok n) is went =
          let step = step_of (meaning_of drawn) m.registers m.console in
          let same : record { registers = step.registers; console = after_stop drawn step.bus } ≡ next = cc in
          let more = step-more drawn m.registers m.console n (omega arith) is in
          let past = stop-past drawn (m.console.cycles + 1) (omega arith) step.bus (omega (arith, more)) in
          rw (← same) (omega (arith, past))

  -- One try more finds the same, where the tries are enough.
  one_more : (tries : ℕ) (m : Machine S) → overlong_cycles ≤ m.console.cycles + tries → stop_within drawn (suc tries) m ≡ stop_within drawn tries m
  unfolding stop_within
  one_more zero m enough = let long : nat_le overlong_cycles m.console.cycles ≡ true = grind (arith, nat_tests) in rw long refl
  one_more (suc tries) m enough = by_length (nat_le overlong_cycles m.console.cycles) refl (one_more tries)
    where
      by_turn : m.console.cycles < overlong_cycles → (t : Turn S) → turn drawn m ≡ t
          → ((m : Machine S) → overlong_cycles ≤ m.console.cycles + tries → stop_within drawn (suc tries) m ≡ stop_within drawn tries m)
          → stop_after drawn (stop_within drawn (suc tries)) t ≡ stop_after drawn (stop_within drawn tries) t
      by_turn short (Faulty fault) e later = refl
      by_turn short (Went next) e later = let more = turn-more m next short e in rw (later next (omega arith)) refl

      by_length : (long : _) → nat_le overlong_cycles m.console.cycles ≡ long
          → ((m : Machine S) → overlong_cycles ≤ m.console.cycles + tries → stop_within drawn (suc tries) m ≡ stop_within drawn tries m)
          → stop_within drawn (suc (suc tries)) m ≡ stop_within drawn (suc tries) m
      by_length true e later = rw e refl
      by_length false e later =
          let short : m.console.cycles < overlong_cycles = grind (arith, nat_tests) in
          rw (e, by_turn short (turn drawn m) refl later) refl

  stop_of-turn : (m : Machine S)
      → stop_of drawn m ≡ (if nat_le overlong_cycles m.console.cycles then Overlong else stop_after drawn (stop_of drawn) (turn drawn m))
  unfolding stop_of stop_within
  stop_of-turn m = sym (one_more overlong_cycles m (omega arith))

  pub stops-long : (m : Machine S) → overlong_cycles ≤ m.console.cycles → stop_of drawn m ≡ Overlong
  stops-long m long = let yes : nat_le overlong_cycles m.console.cycles ≡ true = grind (arith, nat_tests) in rw (stop_of-turn m, yes) refl

  stops-turn : (m : Machine S) → m.console.cycles < overlong_cycles → stop_of drawn m ≡ stop_after drawn (stop_of drawn) (turn drawn m)
  stops-turn m short = let no : nat_le overlong_cycles m.console.cycles ≡ false = grind (arith, nat_tests) in rw (stop_of-turn m, no) refl

  pub stops-faulty : (m : Machine S) (fault : CpuFault) → m.console.cycles < overlong_cycles → turn drawn m ≡ Faulty fault → stop_of drawn m ≡ Faulted fault
  stops-faulty m fault short e = rw (stops-turn m short, e) refl

  pub stops-ended : (m next : Machine S) → m.console.cycles < overlong_cycles → turn drawn m ≡ Went next → next.console.has_ended ≡ true
      → stop_of drawn m ≡ Ended next
  stops-ended m next short e over = rw (stops-turn m short, e, over) refl

  pub stops-later : (m next : Machine S) → m.console.cycles < overlong_cycles → turn drawn m ≡ Went next → next.console.has_ended ≡ false
      → stop_of drawn m ≡ stop_of drawn next
  stops-later m next short e unended = rw (stops-turn m short, e, unended) refl

  -- An instruction that went, with its stop.
  pub went : (m : Machine S) (n : ℕ) (r : Registers) (bus console : Console S)
      → (let step = step_of (meaning_of drawn) m.registers m.console in
      Ok n ≡ step.answer → r ≡ step.registers → bus ≡ step.bus → console ≡ after_stop drawn bus
      → turn drawn m ≡ Went (record { registers = r; console = console }))
  went m n r bus console answer registers same stopped = rw stopped (turn-went m n r bus (sym answer) (sym registers) (sym same))
