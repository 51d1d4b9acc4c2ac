-- A fact of a bus and of the cycles so far that each call of the bus keeps holds after each turn.
use Rattle.std.proofs.Common.{◌≡◌, ℕ, ◌+◌, true, false, Bool, Ok, refl, arith}
use Rattle.mos_cpu.specs.Buses.{IsClock, IsInvariant, Meaning, Respects}
use Rattle.mos_cpu.specs.Execution.{step_of}
use Rattle.mos_cpu.specs.Registers.{Registers}
use Rattle.mos_cpu.proofs.AlongMaps.{step_of-along}
use Rattle.mos_cpu.proofs.StepLaws.{step_of-clock, step_of-kept}
use Rattle.vcs_machine.specs.Consoles.{Console, after_wait, frame_meaning_of, meaning_of, wait_cycles}
use Rattle.vcs_machine.specs.Frame.{Machine, Went, machine_at, stop_of, turn}
use Rattle.vcs_machine.proofs.OneStop.{stop_of-keeps, turn-parts}

-- A bus with a count of its cycles.
record Timed (S : Type 0) : Type 0 where
  bus : S
  cycles : ℕ

-- A fact that cycles move on, and accesses keep.
pub record IsTimedInvariant {S : Type 0} (m : Meaning S) (Fact : S → ℕ → Type 0) : Type 0 where
  pub passed : (s : S) (t n : ℕ) → Fact s t → Fact (m.passed s n) (t + n)
  pub read : (s : S) (t at : ℕ) → Fact s t → Fact (m.after_read s at) t
  pub written : (s : S) (t at v : ℕ) → Fact s t → Fact (m.after_write s at v) t

module _ {S : Type 0} (m : Meaning S) where
  timed : Meaning (Timed S)
  timed = record {
    passed = λ g n. record { bus = m.passed g.bus n; cycles = g.cycles + n };
    read_value = λ g at. m.read_value g.bus at;
    after_read = λ g at. record { bus = m.after_read g.bus at; cycles = g.cycles };
    after_write = λ g at v. record { bus = m.after_write g.bus at v; cycles = g.cycles };
    peeked = λ g at. m.peeked g.bus at;
    peeked_zero = λ g at. m.peeked_zero g.bus at;
  }

  timed-respects : Respects timed m (λ g. g.bus)
  unfolding timed
  timed-respects = record {
    passed = λ g n. refl;
    read_value = λ g at. refl;
    after_read = λ g at. refl;
    after_write = λ g at v. refl;
    peeked = λ g at. refl;
    peeked_zero = λ g at. refl;
  }

  timed-clock : IsClock timed (λ t n. t + n) (λ g. g.cycles)
  unfolding timed
  timed-clock = record {
    adds = λ t a b. omega arith;
    passed = λ g n. refl;
    read = λ g at. refl;
    written = λ g at v. refl;
  }

  module _ (Fact : S → ℕ → Type 0) (kept : IsTimedInvariant m Fact) where
    timed-kept : IsInvariant timed (λ g. Fact g.bus g.cycles)
    unfolding timed
    timed-kept = record {
      passed = λ g n h. kept.passed g.bus g.cycles n h;
      read = λ g at h. kept.read g.bus g.cycles at h;
      written = λ g at v h. kept.written g.bus g.cycles at v h;
    }

    -- After an instruction it holds of the cycles that it took.
    pub step_of-timed : (r : Registers) (s : S) (t taken : ℕ) → (step_of m r s).answer ≡ Ok taken → Fact s t → Fact (step_of m r s).bus (t + taken)
    step_of-timed r s t taken answer h =
        let start : Timed S = record { bus = s; cycles = t } in
        let along = step_of-along timed m (λ g. g.bus) timed-respects r start in
        let same : (step_of timed r start).answer ≡ Ok taken = cc in
        let at = rw same at (step_of-clock timed (λ t n. t + n) (λ g. g.cycles) timed-clock r start) in
        let there = step_of-kept timed (λ g. Fact g.bus g.cycles) timed-kept r start h in
        rw along (rw at at there)

-- ---- in a frame
module _ {S : Type 0} (drawn : S → ℕ → ℕ → ℕ → S) (Fact : Console S → ℕ → Type 0) (kept : IsTimedInvariant (meaning_of drawn) Fact)
    (waits : (c : Console S) (t : ℕ) → Fact c t → Fact (record c { awaits_line = false }) t) where
  after_wait-timed : (c : Console S) (t : ℕ) → Fact c t → Fact (after_wait drawn c) (t + wait_cycles c)
  unfolding meaning_of
  after_wait-timed c t h = by c.awaits_line refl
    where
      by : (awaits : Bool) → c.awaits_line ≡ awaits → Fact (after_wait drawn c) (t + wait_cycles c)
      by true e = rw e (waits _ _ (kept.passed c t _ h))
      by false e = let none : t + 0 ≡ t = omega arith in rw (e, none) (waits c t h)

  turn-timed : (m next : Machine (Console S)) → Fact m.bus m.cycles → turn (frame_meaning_of drawn) m ≡ Went next → Fact next.bus next.cycles
  unfolding frame_meaning_of
  turn-timed m next h e =
      let t = turn-parts (frame_meaning_of drawn) m next e in
      let step = step_of (meaning_of drawn) m.registers m.bus in
      rw (← t.same) (after_wait-timed step.bus (m.cycles + t.taken) (step_of-timed (meaning_of drawn) Fact kept m.registers m.bus m.cycles t.taken t.answer h))

  pub stop-timed : (m : Machine (Console S)) → Fact m.bus m.cycles
      → (let here = machine_at (stop_of (frame_meaning_of drawn) m) in Fact here.bus here.cycles)
  stop-timed = stop_of-keeps (frame_meaning_of drawn) (λ m. Fact m.bus m.cycles) (λ m next h short. turn-timed m next h)
