-- Devices that are behind.
use Rattle.std.proofs.Common.{◌≡◌, ℕ, zero, suc, ◌+◌, ◌-◌, ◌*◌, ◌/◌, ◌%◌, ◌==◌, ◌<◌, ◌≤◌}
use Rattle.std.proofs.Common.{refl, sym, ap, arith, inl, inr, nat_lt, true}
use Rattle.std.specs.Fn.{iterate}
use Rattle.std.proofs.Math.Bool.{or-false}
use Rattle.std.proofs.lemmas.Bool.{cases_Bool}
use Rattle.std.proofs.lemmas.Bool.Decides.{nat_tests}
use Rattle.riot_map.specs.Riot.{RiotState, after_cycles}
use Rattle.riot_map.specs.Timer.{Countdown, after_cycle}
use Rattle.tia_core.specs.Clock.{after_clock, pixels, sink_after_pixels}
use Rattle.tia_core.specs.Collision.{collision_byte}
use Rattle.tia_core.specs.Read.{tia_read}
use Rattle.tia_core.specs.TiaState.{TiaState}
use Rattle.tia_core.specs.Write.{effect_of, tia_after_write}
use Rattle.tia_core.specs.declared.effect.Effect.TheVariants.{Nothing}
use Rattle.tia_core.specs.declared.fields.TiaFields.{TiaFields}
use Rattle.vcs_machine.specs.Consoles.{Console, after_tia_write}
use Rattle.tia_core.proofs.ClockLemmas.{iterate-add, painted-add, iterate-clocked-clock}
use Rattle.tia_core.proofs.ClockLemmas.{iterate-clocked-others}

-- ---- more cycles
pub riot-add : (a b : ℕ) (r : RiotState) → after_cycles b (after_cycles a r) ≡ after_cycles (a + b) r
unfolding after_cycles
riot-add a b r = ap (λ (t : Countdown). record r { timer = t }) (sym (iterate-add after_cycle a b r.timer))

pub riot-later : (riot_left left n : ℕ) (r : RiotState) → n ≤ left → left ≤ 76 → left ≤ riot_left
    → after_cycles (riot_left - (left + (256 - n)) % 256) r ≡ after_cycles n (after_cycles (riot_left - left) r)
riot-later riot_left left n r h most behind =
    let e : riot_left - (left + (256 - n)) % 256 ≡ riot_left - left + n = omega arith in
    rw e (sym (riot-add (riot_left - left) n r))

pub riot-caught_up : (left : ℕ) (r : RiotState) → after_cycles (left - left) r ≡ r
unfolding after_cycles
riot-caught_up left r = let e : left - left ≡ 0 = omega arith in rw e refl

pub riot-lagging : (riot_left n : ℕ) (r : RiotState) → n ≤ 76 → 76 ≤ riot_left
    → after_cycles (riot_left - (76 - n)) r ≡ after_cycles n (after_cycles (riot_left - 76) r)
riot-lagging riot_left n r most behind =
    let e : riot_left - (76 - n) ≡ riot_left - 76 + n = omega arith in
    rw e (sym (riot-add (riot_left - 76) n r))

three : (m n : ℕ) → 3 * (m + n) ≡ 3 * m + 3 * n
three m n = omega arith

pub tia-later : (lag n : ℕ) (t : TiaState) → iterate after_clock (3 * (lag + n)) t ≡ iterate after_clock (3 * n) (iterate after_clock (3 * lag) t)
tia-later lag n t = rw (three lag n) (iterate-add after_clock (3 * lag) (3 * n) t)

pub sink-later : {S : Type 0} (drawn : S → ℕ → ℕ → ℕ → S) (lag n : ℕ) (t : TiaState) (s : S)
    → sink_after_pixels drawn s (pixels (3 * (lag + n)) t)
    ≡ sink_after_pixels drawn (sink_after_pixels drawn s (pixels (3 * lag) t))
    (pixels (3 * n) (iterate after_clock (3 * lag) t))
sink-later drawn lag n t s = rw (three lag n) (painted-add drawn s (3 * lag) (3 * n) t)

-- Fewer cycles of lag are left, and the lag is as much more.
pub left-less : (left n : ℕ) → n ≤ left → left ≤ 76 → 76 - (left + (256 - n)) % 256 ≡ 76 - left + n
left-less left n h most = omega arith

-- ---- the beam
pub line-later : (lag : ℕ) (t : TiaState) → t.fields.clock < 228 → (iterate after_clock (3 * lag) t).fields.clock / 3 ≡ (t.fields.clock / 3 + lag) % 76
line-later lag t h = rw (iterate-clocked-clock (3 * lag) t h) (omega arith)

-- ---- reads
-- The numbers of a TIA after a clock follow from its numbers alone.
clocked-numbers : (s t : TiaState) → s.fields ≡ t.fields → (after_clock s).fields ≡ (after_clock t).fields
clocked-numbers s t e = elim (cases_Bool (t.fields.clock == 227)) [ inl last ↦ rw (e, last) refl | inr not ↦ rw (e, not) refl ]

pub iterate-clocked-numbers : (n : ℕ) (s t : TiaState) → s.fields ≡ t.fields → (iterate after_clock n s).fields ≡ (iterate after_clock n t).fields
iterate-clocked-numbers zero s t e = e
iterate-clocked-numbers (suc n) s t e = iterate-clocked-numbers n (after_clock s) (after_clock t) (clocked-numbers s t e)

-- The registers of the buttons don't see the beam.
pub read-buttons : (n : ℕ) (s : TiaState) (r : ℕ) → s.fields.clock < 228 → 8 ≤ r % 16 → tia_read s r ≡ tia_read (iterate after_clock n s) r
read-buttons n s r h k =
    let e = sym (iterate-clocked-others n s h) in
    let vblank = ap (λ (t : TiaState). t.fields.vblank) e in
    let latches = ap (λ (t : TiaState). t.fields.latches) e in
    let fire0 = ap (λ (t : TiaState). t.fire0) e in
    let fire1 = ap (λ (t : TiaState). t.fire1) e in
    grind (arith, nat_tests)

-- The registers of collisions see nothing else.
pub read-pairs : (n : ℕ) (s t : TiaState) (r : ℕ) → s.fields ≡ t.fields → r % 16 < 8
    → tia_read (iterate after_clock n s) r ≡ tia_read (iterate after_clock n t) r
read-pairs n s t r e h =
    let is_pairs : nat_lt (r % 16) 8 ≡ true = grind (arith, nat_tests) in
    rw is_pairs (ap (λ (f : TiaFields). collision_byte f.collisions (r % 16)) (iterate-clocked-numbers n s t e))

-- ---- writes
-- No write moves the beam to another line.
pub written-line : (s t : TiaState) (register v : ℕ) → t ≡ tia_after_write s register v → t.line ≡ s.line
unfolding tia_after_write
written-line s t register v e = ap (λ (z : TiaState). z.line) e

-- A write that changes nothing after any clocks changes nothing in a console.
pub written-unchanged : {S : Type 0} (c : Console S) (n : ℕ) (t : TiaState) (register v : ℕ) → c.tia ≡ iterate after_clock n t
    → ((k : ℕ) → tia_after_write (iterate after_clock k t) register v ≡ iterate after_clock k t)
    → ((k : ℕ) → effect_of (iterate after_clock k t) register v ≡ Nothing)
    → c ≡ after_tia_write c register v
written-unchanged c n t register v e kept quiet =
    let whole : tia_after_write c.tia register v ≡ c.tia = rw e (kept n) in
    let none : effect_of c.tia register v ≡ Nothing = rw e (quiet n) in
    rw (whole, none, or-false c.awaits_line, or-false c.ended) refl
