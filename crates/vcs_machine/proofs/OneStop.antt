-- A frame stops in one way, and the search for it finds that one.
use Rattle.std.proofs.Common.{◌≡◌, ℕ, zero, suc, ◌+◌, ◌*◌, ◌<◌, ◌≤◌, true, false, inl, inr}
use Rattle.std.proofs.Common.{refl, sym, ap, ◌∙◌, arith}
use Rattle.std.specs.Prelude.{Result, Ok, Err, nat_le, if◌then◌else◌}
use Rattle.std.proofs.lemmas.Bool.{cases_Bool, cases_lt, or_parts}
use Rattle.std.proofs.lemmas.Bool.Decides.{nat_tests}
use Rattle.mos_cpu.proofs.StepLaws.{step_of-least}
use Rattle.mos_cpu.specs.Execution.{step_of}
use Rattle.mos_cpu.specs.declared.fault.CpuFault.{CpuFault}
use Rattle.vcs_machine.specs.Frame.{FrameMeaning, Machine, Turn, Faulty, Went, turn, turn_after, turn_by, turns}
use Rattle.vcs_machine.specs.Frame.{is_over, Reaches, Stop, Ended}
use Rattle.vcs_machine.specs.Frame.{Overlong, Faulted, machine_at, StopsAs, stop_after, stop_within}
use Rattle.vcs_machine.specs.Frame.{stop_of, most_turns, overlong_cycles}

module _ {B : Type 0} (meaning : FrameMeaning B) where
  -- What a turn is that went: an instruction with its wait.
  pub record IsTurn (m next : Machine B) : Type 0 where
    pub taken : ℕ
    pub answer : (step_of meaning.calls m.registers m.bus).answer ≡ Ok taken
    pub same : (let step = step_of meaning.calls m.registers m.bus in
        record { registers = step.registers; bus = meaning.after_wait step.bus; cycles = m.cycles + taken + meaning.wait step.bus } ≡ next)

  pub turn-parts : (m next : Machine B) → turn meaning m ≡ Went next → IsTurn m next
  unfolding turn
  turn-parts m next e = by (step_of meaning.calls m.registers m.bus).answer refl e
    where
      by : (let step = step_of meaning.calls m.registers m.bus in
          (answer : Result ℕ CpuFault) → step.answer ≡ answer → turn_by meaning m.cycles step.registers step.bus answer ≡ Went next → IsTurn m next)
      by (Err fault) is went = absurd (cc)
      by (Ok n) is went = record { taken = n; answer = is; same = cc }

  -- A turn takes at least two cycles.
  pub turn-least : (m next : Machine B) → turn meaning m ≡ Went next → m.cycles + 2 ≤ next.cycles
  turn-least m next e =
      let t = turn-parts m next e in
      let least = rw t.answer at (step_of-least meaning.calls m.registers m.bus) in
      rw (← t.same) (omega (arith, least))

  -- ---- what the search finds, by the next turn
  -- One try more finds the same, where the tries are enough.
  one_more : (tries : ℕ) (m : Machine B) → overlong_cycles ≤ m.cycles + 2 * tries → stop_within meaning (suc tries) m ≡ stop_within meaning tries m
  unfolding stop_within
  one_more zero m enough = let long : nat_le overlong_cycles m.cycles ≡ true = grind (arith, nat_tests) in rw long refl
  one_more (suc tries) m enough =
      ap (λ (stop : Stop B). if nat_le overlong_cycles m.cycles then Overlong m else stop) (by_turn (turn meaning m) refl (one_more tries))
    where
      by_turn : (t : Turn B) → turn meaning m ≡ t
          → ((m : Machine B) → overlong_cycles ≤ m.cycles + 2 * tries → stop_within meaning (suc tries) m ≡ stop_within meaning tries m)
          → stop_after meaning (stop_within meaning (suc tries)) m t ≡ stop_after meaning (stop_within meaning tries) m t
      by_turn (Faulty fault) e later = refl
      by_turn (Went next) e later = let more = turn-least m next e in rw (later next (omega arith)) refl

  stop_of-turn : (m : Machine B)
      → stop_of meaning m ≡ (if nat_le overlong_cycles m.cycles then Overlong m else stop_after meaning (stop_of meaning) m (turn meaning m))
  unfolding stop_of stop_within
  stop_of-turn m = sym (one_more most_turns m (omega arith))

  pub stops-long : (m : Machine B) → overlong_cycles ≤ m.cycles → stop_of meaning m ≡ Overlong m
  stops-long m long = let yes : nat_le overlong_cycles m.cycles ≡ true = grind (arith, nat_tests) in rw (stop_of-turn m, yes) refl

  stops-turn : (m : Machine B) → m.cycles < overlong_cycles → stop_of meaning m ≡ stop_after meaning (stop_of meaning) m (turn meaning m)
  stops-turn m short = let no : nat_le overlong_cycles m.cycles ≡ false = grind (arith, nat_tests) in rw (stop_of-turn m, no) refl

  pub stops-faulty : (m : Machine B) (fault : CpuFault) → m.cycles < overlong_cycles → turn meaning m ≡ Faulty fault → stop_of meaning m ≡ Faulted fault m
  stops-faulty m fault short e = rw (stops-turn m short, e) refl

  pub stops-ended : (m next : Machine B) → m.cycles < overlong_cycles → turn meaning m ≡ Went next → meaning.ended next.bus ≡ true → stop_of meaning m ≡ Ended next
  stops-ended m next short e over = rw (stops-turn m short, e, over) refl

  pub stops-later : (m next : Machine B) → m.cycles < overlong_cycles → turn meaning m ≡ Went next → meaning.ended next.bus ≡ false
      → stop_of meaning m ≡ stop_of meaning next
  stops-later m next short e unended = rw (stops-turn m short, e, unended) refl

  -- ---- the stop that is shown of a frame is the one that the search finds
  not_over : (m : Machine B) → is_over meaning m ≡ false → (meaning.ended m.bus ≡ false) × (m.cycles < overlong_cycles)
  not_over m e = let parts = or_parts _ _ e in (parts.0, let short = parts.1 in grind (arith, nat_tests))

  -- The turn by which a frame came here, and which begins before the frame stops.
  record CameBy (start here : Machine B) : Type 0 where
    before : Machine B
    short : before.cycles < overlong_cycles
    went : turn meaning before ≡ Went here
    same : stop_of meaning start ≡ stop_of meaning before

  came_by : (start : Machine B) → start.cycles ≡ 0 → (n : ℕ) (here : Machine B) → 0 < n → Reaches meaning start n here → CameBy start here
  came_by start fresh zero here some r = absurd (omega arith)
  came_by start fresh (suc zero) here some r = record { before = start; short = omega arith; went = r.reached; same = refl }
  came_by start fresh (suc (suc n)) here some r = by (turns meaning (suc n) start) refl r.reached (came_by start fresh (suc n))
    where
      by : (t : Turn B) → turns meaning (suc n) start ≡ t → turn_after meaning t ≡ Went here
          → ((m : Machine B) → 0 < suc n → Reaches meaning start (suc n) m → CameBy start m) → CameBy start here
      by (Faulty fault) e went came = absurd (cc)
      by (Went m) e went came =
          let going = not_over m (r.least (suc n) (omega arith) (omega arith) m e) in
          let b = came m (omega arith) (record { reached = e; least = λ k less. r.least k (omega arith) }) in
          record { before = m; short = going.1; went = went; same = b.same ∙ stops-later b.before m b.short b.went going.0 }

  pub stops_as-only : (start : Machine B) (stop : Stop B) → start.cycles ≡ 0 → StopsAs meaning start stop → stop ≡ stop_of meaning start
  stops_as-only start (Ended here) fresh p =
      let b = came_by start fresh p.count here p.some p.reaches in sym (b.same ∙ stops-ended b.before here b.short b.went p.ended)
  stops_as-only start (Overlong here) fresh p =
      let b = came_by start fresh p.count here p.some p.reaches in
      sym (b.same ∙ stops-later b.before here b.short b.went p.unended ∙ stops-long here p.long)
  stops_as-only start (Faulted fault here) fresh p = sym (by_count p.count p.reaches p.going)
    where
      by_count : (n : ℕ) → Reaches meaning start n here → (0 < n → is_over meaning here ≡ false) → stop_of meaning start ≡ Faulted fault here
      by_count zero r going = let at : start ≡ here = (let reached = r.reached in cc) in rw at (stops-faulty here fault (rw at at fresh_short) p.fails)
        where
          fresh_short : start.cycles < overlong_cycles
          fresh_short = omega arith
      by_count (suc n) r going =
          let b = came_by start fresh (suc n) here (omega arith) r in
          let on = not_over here (going (omega arith)) in
          b.same ∙ stops-later b.before here b.short b.went on.0 ∙ stops-faulty here fault on.1 p.fails

-- ---- what holds where a frame stops
-- A goal is shown of each way to stop, from a fact that each turn keeps before it.
pub record Shows {B : Type 0} (meaning : FrameMeaning B) (Fact : Machine B → Type 0) (Goal : Stop B → Type 0) : Type 0 where
  pub long : (m : Machine B) → Fact m → overlong_cycles ≤ m.cycles → Goal (Overlong m)
  pub faulty : (m : Machine B) (fault : CpuFault) → Fact m → m.cycles < overlong_cycles → turn meaning m ≡ Faulty fault → Goal (Faulted fault m)
  pub ended : (m next : Machine B) → Fact m → m.cycles < overlong_cycles → turn meaning m ≡ Went next → meaning.ended next.bus ≡ true → Goal (Ended next)
  pub goes_on : (m next : Machine B) → Fact m → m.cycles < overlong_cycles → turn meaning m ≡ Went next → meaning.ended next.bus ≡ false → Fact next

module _ {B : Type 0} (meaning : FrameMeaning B) (Fact : Machine B → Type 0) (Goal : Stop B → Type 0) (shows : Shows meaning Fact Goal) where
  by_tries : (tries : ℕ) (m : Machine B) → overlong_cycles ≤ m.cycles + 2 * tries → Fact m → Goal (stop_of meaning m)
  by_tries zero m enough fact = let long : overlong_cycles ≤ m.cycles = omega arith in rw (stops-long meaning m long) (shows.long m fact long)
  by_tries (suc tries) m enough fact = elim (cases_lt m.cycles overlong_cycles) [
    | inl short ↦ by_turn (turn meaning m) refl short (by_tries tries)
    | inr long ↦ rw (stops-long meaning m long) (shows.long m fact long)
  ]
    where
      by_turn : (t : Turn B) → turn meaning m ≡ t → m.cycles < overlong_cycles
          → ((m : Machine B) → overlong_cycles ≤ m.cycles + 2 * tries → Fact m → Goal (stop_of meaning m)) → Goal (stop_of meaning m)
      by_turn (Faulty fault) e short later = rw (stops-faulty meaning m fault short e) (shows.faulty m fault fact short e)
      by_turn (Went next) e short later = elim (cases_Bool (meaning.ended next.bus)) [
        | inl over ↦ rw (stops-ended meaning m next short e over) (shows.ended m next fact short e over)
        | inr unended ↦ (let more = turn-least meaning m next e in
            rw (stops-later meaning m next short e unended) (later next (omega arith) (shows.goes_on m next fact short e unended)))
      ]

  pub stop_of-shown : (m : Machine B) → Fact m → Goal (stop_of meaning m)
  stop_of-shown m = by_tries most_turns m (omega arith)

-- What each turn keeps that begins before a frame is too long holds where the frame stops.
pub stop_of-keeps : {B : Type 0} (meaning : FrameMeaning B) (Fact : Machine B → Type 0)
    → ((m next : Machine B) → Fact m → m.cycles < overlong_cycles → turn meaning m ≡ Went next → Fact next)
    → (m : Machine B) → Fact m → Fact (machine_at (stop_of meaning m))
stop_of-keeps meaning Fact keeps = stop_of-shown meaning Fact (λ stop. Fact (machine_at stop)) (record {
  long = λ m fact long. fact;
  faulty = λ m fault fact short e. fact;
  ended = λ m next fact short e over. keeps m next fact short e;
  goes_on = λ m next fact short e unended. keeps m next fact short e;
})

-- ---- the search finds a way in which the frame stops
module _ {B : Type 0} (meaning : FrameMeaning B) where
  pub reaches-suc : (start here next : Machine B) (n : ℕ) → Reaches meaning start n here → (0 < n → is_over meaning here ≡ false)
      → turn meaning here ≡ Went next → Reaches meaning start (suc n) next
  reaches-suc start here next n r going went = grind arith

  -- So many turns led here, and the frame's end has not come.
  record Underway (start here : Machine B) : Type 0 where
    count : ℕ
    reaches : Reaches meaning start count here
    unended : 0 < count → meaning.ended here.bus ≡ false
    begun : overlong_cycles ≤ here.cycles → 0 < count

  going : (start here : Machine B) (u : Underway start here) → here.cycles < overlong_cycles → 0 < u.count → is_over meaning here ≡ false
  going start here u short some = let no : nat_le overlong_cycles here.cycles ≡ false = grind (arith, nat_tests) in rw (u.unended some, no) refl

  way_shown : (start : Machine B) → Shows meaning (Underway start) (StopsAs meaning start)
  way_shown start = record {
    long = λ m u long. record { count = u.count; some = u.begun long; reaches = u.reaches; unended = u.unended (u.begun long); long = long };
    faulty = λ m fault u short e. record { count = u.count; reaches = u.reaches; going = going start m u short; fails = e };
    ended = λ m next u short e over.
        record { count = suc u.count; some = omega arith; reaches = reaches-suc start m next u.count u.reaches (going start m u short) e; ended = over };
    goes_on = λ m next u short e unended. record {
      count = suc u.count;
      reaches = reaches-suc start m next u.count u.reaches (going start m u short) e;
      unended = λ some. unended;
      begun = λ long. omega arith;
    };
  }

  pub stops_as-found : (start : Machine B) (stop : Stop B) → start.cycles ≡ 0 → stop ≡ stop_of meaning start → StopsAs meaning start stop
  stops_as-found start stop fresh e = rw e (stop_of-shown meaning (Underway start) (StopsAs meaning start) (way_shown start) start (record {
    count = 0;
    reaches = record { reached = refl; least = λ k less. absurd (omega arith) };
    unended = λ some. absurd (omega arith);
    begun = λ long. absurd (omega arith);
  }))
