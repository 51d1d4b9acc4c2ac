-- The line's clock after many clocks, and WSYNC, which changes nothing.
use Rattle.std.proofs.Common.{◌≡◌, ◌∙◌, ℕ, zero, suc, ◌+◌, ◌%◌, ◌<◌, ◌==◌, Bool, Option, Some, None, true, false, refl, ap, arith, if◌then◌else◌}
use Rattle.std.proofs.lemmas.Bool.{cond_both}
use Rattle.std.specs.Fn.{iterate}
use Rattle.tia_chip.specs.AtRest.{awaits_rsync, is_rsync}
use Rattle.tia_chip.specs.Clock.{after_clock, at_pixel}
use Rattle.tia_chip.specs.Collision.{latched}
use Rattle.tia_chip.specs.Registers.{register_of}
use Rattle.tia_chip.specs.Write.{acted, after_register_write, tia_after_write, with_hmove_in, with_waited, with_waited_write, with_waited_writes}
use Rattle.tia_chip.specs.declared.register.Register.{Register}
use Rattle.tia_chip.specs.declared.register.Register.TheVariants.{Rsync, Wsync}
use Rattle.tia_chip.specs.declared.state.TiaState.{TiaState}
use Rattle.tia_chip.specs.declared.waiting.Waiting.{Waiting}
use Rattle.tia_chip.proofs.AtRestLemmas.{acted-alike, hmove_in-waiting, next-stands, next-way, pixel-same}
use Rattle.tia_chip.proofs.ThereLemmas.{unchanged}

-- ---- the writes that have waited
acted-clock : (r : Register) (v : ℕ) (t : TiaState) → is_rsync r ≡ false → (acted r v t).clock ≡ t.clock
acted-clock Rsync v t e = absurd cc
acted-clock r v t e = refl

waited-clock : (o : Option Waiting) (t : TiaState) → awaits_rsync o ≡ false → (with_waited o t).clock ≡ t.clock
waited-clock None t k = refl
waited-clock (Some w) t k =
    cond_both (w.clocks == 0) _ _ (λ (u : TiaState). u.clock ≡ t.clock) (λ e. acted-clock w.register w.value (record t { waiting = None }) k) (λ e. refl)

hmove_in-clock : (o : Option ℕ) (t : TiaState) → (with_hmove_in o t).clock ≡ t.clock
hmove_in-clock None t = refl
hmove_in-clock (Some n) t = cond_both (n == 0) _ _ (λ (u : TiaState). u.clock ≡ t.clock) (λ e. refl) (λ e. refl)

-- No RSYNC comes on its way.
waited-rsync : (o : Option Waiting) (t : TiaState) → t.waiting ≡ o → awaits_rsync o ≡ false → awaits_rsync (with_waited o t).waiting ≡ false
waited-rsync None t is k = rw is refl
waited-rsync (Some w) t is k =
    cond_both (w.clocks == 0) _ _ (λ (u : TiaState). awaits_rsync u.waiting ≡ false)
    (λ e. rw (acted-alike w.register w.value (record t { waiting = None })).waiting refl) (λ e. k)

-- ---- a clock
record IsAhead (before after : TiaState) : Type 0 where
  pub clock : after.clock ≡ (before.clock + 1) % 228
  pub rsync : awaits_rsync after.waiting ≡ false

ahead : (t : TiaState) → awaits_rsync t.waiting ≡ false → t.clock < 228 → IsAhead t (after_clock t)
unfolding after_clock
ahead t k few =
    let write = with_waited_write t in
    let waited = with_waited_writes t in
    let same = pixel-same t in
    let pixel = latched (at_pixel t) in
    let clock : pixel.clock ≡ t.clock = same.2 ∙ hmove_in-clock write.hmove write ∙ waited-clock t.waiting t k in
    let waiting = (next-way pixel).0 ∙ same.0 ∙ hmove_in-waiting write.hmove write in
    record {
      clock = (next-stands pixel (rw clock few)).0 ∙ ap (λ (n : ℕ). (n + 1) % 228) clock;
      rsync = ap awaits_rsync waiting ∙ waited-rsync t.waiting t refl k;
    }

pub later : (n : ℕ) (t : TiaState) → awaits_rsync t.waiting ≡ false → t.clock < 228 → (iterate after_clock n t).clock ≡ (t.clock + n % 228) % 228
later zero t k few = omega arith
later (suc n) t k few =
    let once = ahead t k few in
    later n (after_clock t) once.rsync (omega (arith, once.clock)) ∙ (omega (arith, once.clock))

-- ---- no RSYNC comes
clock-unsynced : (t : TiaState) → awaits_rsync t.waiting ≡ false → awaits_rsync (after_clock t).waiting ≡ false
unfolding after_clock
clock-unsynced t k =
    let write = with_waited_write t in
    let same = pixel-same t in
    let waiting = (next-way (latched (at_pixel t))).0 ∙ same.0 ∙ hmove_in-waiting write.hmove write in
    ap awaits_rsync waiting ∙ waited-rsync t.waiting t refl k

pub unsynced : (n : ℕ) (t : TiaState) → awaits_rsync t.waiting ≡ false → awaits_rsync (iterate after_clock n t).waiting ≡ false
unsynced zero t k = k
unsynced (suc n) t k = unsynced n (after_clock t) (clock-unsynced t k)

-- a clock is told only where none is on its way
pub told-unsynced : (b : Bool) (x y : ℕ) → (if b then None else Some x) ≡ Some y → b ≡ false
told-unsynced true x y e = absurd cc
told-unsynced false x y e = refl

-- ---- WSYNC
pub wsync-kept : (t : TiaState) (number v : ℕ) → register_of number ≡ Wsync → tia_after_write t number v ≡ t
unfolding tia_after_write
wsync-kept t number v e = ap (λ (r : Register). after_register_write r v t) e ∙ unchanged t
