-- A fact of a console that each call of its bus keeps, and that a wait keeps, holds after each turn.
use Rattle.std.proofs.Common.{◌≡◌, ℕ, zero, suc, false, refl}
use Rattle.std.proofs.lemmas.Bool.{cond_both}
use Rattle.mos_cpu.specs.Buses.{IsInvariant}
use Rattle.mos_cpu.specs.Execution.{step_of}
use Rattle.mos_cpu.proofs.StepLaws.{step_of-kept}
use Rattle.vcs_machine.specs.Consoles.{Console, after_wait, frame_meaning_of, meaning_of}
use Rattle.vcs_machine.specs.Frame.{Faulty, Machine, Turn, Went, turn, turn_after, turns}
use Rattle.vcs_machine.proofs.OneStop.{turn-parts}

module _ {S : Type 0} (drawn : S → ℕ → ℕ → ℕ → S) (Fact : Console S → Type 0) (kept : IsInvariant (meaning_of drawn) Fact)
    (waits : (c : Console S) → Fact c → Fact (record c { awaits_line = false })) where
  after_wait-kept : (c : Console S) → Fact c → Fact (after_wait drawn c)
  unfolding meaning_of
  after_wait-kept c fact = cond_both c.awaits_line _ c Fact (λ _. waits _ (kept.passed c _ fact)) (λ _. fact)

  pub turn-kept : (m next : Machine (Console S)) → Fact m.bus → turn (frame_meaning_of drawn) m ≡ Went next → Fact next.bus
  unfolding frame_meaning_of
  turn-kept m next fact e =
      let step = step_of (meaning_of drawn) m.registers m.bus in
      let t = turn-parts (frame_meaning_of drawn) m next e in
      rw (← t.same) (after_wait-kept step.bus (step_of-kept (meaning_of drawn) Fact kept m.registers m.bus fact))

  pub turns-kept : (count : ℕ) (start m : Machine (Console S)) → Fact start.bus → turns (frame_meaning_of drawn) count start ≡ Went m → Fact m.bus
  turns-kept zero start m fact e = let same : start ≡ m = cc in rw (← same) fact
  turns-kept (suc n) start m fact e = by (turns (frame_meaning_of drawn) n start) (λ k same. turns-kept n start k fact same) e
    where
      by : (t : Turn (Console S)) → ((k : Machine (Console S)) → t ≡ Went k → Fact k.bus) → turn_after (frame_meaning_of drawn) t ≡ Went m → Fact m.bus
      by (Faulty fault) before after = absurd (cc)
      by (Went k) before after = turn-kept k m (before k refl) after
