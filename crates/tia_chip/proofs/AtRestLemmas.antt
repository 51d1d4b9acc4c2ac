-- What a cycle of the processor leaves on its way, and which accesses leave a TIA at rest.
use Rattle.std.proofs.Common.{◌≡◌, ℕ, ◌+◌, ◌-◌, ◌%◌, ◌<◌, ◌≤◌, ◌==◌, ◌&&◌, ◌||◌, ◌⊎◌, ◌≢◌, not, min, Bool, true, false, IsTrue, arith, refl, ap, ◌∙◌, if◌then◌else◌}
use Rattle.std.proofs.Common.{Option, Some, None, inl, inr}
use Rattle.std.proofs.lemmas.Bool.{cond_above, cond_below, and_from, and_parts, and_right, cases_lt, cond_both, eq-eqb, eqb-false, eqb-true, false≢true, ltb-false, ltb-true, not-true}
use Rattle.std.proofs.lemmas.Bool.Decides.{nat_tests}
use Rattle.std.specs.Fn.{iterate}
use Rattle.std.specs.Prelude.{IfSome, nat_le, nat_lt}
use Rattle.tia_chip.proofs.UnderwayBeam.{HasBeam}
use Rattle.tia_chip.proofs.UnderwayLaws.{underway-clock}
use Rattle.tia_chip.proofs.UnderwayTables.{has_line}
use Rattle.tia_chip.specs.AtRest.{IsCycle, hmove_after, is_at_rest, leaves_at_rest}
use Rattle.tia_chip.specs.Ball.{enable_of, is_ball_changed}
use Rattle.tia_chip.specs.Bits.{has_bit}
use Rattle.tia_chip.specs.Blank.{is_in_blank}
use Rattle.tia_chip.specs.Clock.{after_clock, at_line_start, at_next_clock, at_pixel, stepped, with_next_clock}
use Rattle.tia_chip.specs.Collision.{latched}
use Rattle.tia_chip.specs.Missile.{is_missile_changed}
use Rattle.tia_chip.specs.Motion.{any_moves, pulsed}
use Rattle.tia_chip.specs.Player.{graphic_of, is_drawn, is_player_changed}
use Rattle.tia_chip.specs.Playfield.{with_playfield}
use Rattle.tia_chip.specs.PowerOn.{at_frame_start, with_fire}
use Rattle.tia_chip.specs.Numbers.{is_settled}
use Rattle.tia_chip.specs.Read.{tia_after_read}
use Rattle.tia_chip.specs.Registers.{delay_of, register_of}
use Rattle.tia_chip.specs.Underway.{IsOnItsWay, IsUnderway}
use Rattle.tia_chip.specs.Write.{acted, after_register_write, is_changed, tia_after_write, with_hmove_in, with_waited}
use Rattle.tia_chip.specs.Write.{with_waited_write, with_waited_writes}
use Rattle.tia_chip.specs.declared.ball.Ball.{Ball}
use Rattle.tia_chip.specs.declared.missile.Missile.{Missile}
use Rattle.tia_chip.specs.declared.player.Player.{Player}
use Rattle.tia_chip.specs.declared.register.Register.{Register}
use Rattle.tia_chip.specs.declared.register.Register.TheVariants.{Hmove, Ignored, Rsync, Vsync, Wsync}
use Rattle.tia_chip.specs.declared.state.TiaState.{TiaState}
use Rattle.tia_chip.specs.declared.waiting.Waiting.{Waiting}

-- ---- the writes that have waited
-- a write that acts leaves what is on its way, and one with a delay the clock and the beam
pub record IsAlike (before after : TiaState) : Type 0 where
  pub hmove : after.hmove ≡ before.hmove
  pub waiting : after.waiting ≡ before.waiting

pub acted-alike : (r : Register) (v : ℕ) (t : TiaState) → IsAlike t (acted r v t)
acted-alike Rsync v t = record { hmove = refl; waiting = refl }
acted-alike r v t = record { hmove = refl; waiting = refl }

abbrev StandsAt : ℕ → ℕ → TiaState → Type 0
StandsAt clock beam t = (t.clock ≡ clock) × (t.beam ≡ beam)

acted-stands : (r : Register) (v : ℕ) (t : TiaState) → 1 ≤ delay_of r → StandsAt t.clock t.beam (acted r v t)
acted-stands Rsync v t h = absurd (omega arith)
acted-stands r v t h = (refl, refl)

waited-stands : (o : Option Waiting) (t : TiaState) → IfSome o IsOnItsWay → StandsAt t.clock t.beam (with_waited o t)
waited-stands None t k = (refl, refl)
waited-stands (Some w) t k =
    cond_both (w.clocks == 0) _ _ (StandsAt t.clock t.beam) (λ e. acted-stands w.register w.value (record t { waiting = None }) k.0) (λ e. (refl, refl))

hmove_in-stands : (clock beam : ℕ) (o : Option ℕ) (t : TiaState) → StandsAt clock beam t → StandsAt clock beam (with_hmove_in o t)
hmove_in-stands clock beam None t h = h
hmove_in-stands clock beam (Some n) t h = cond_both (n == 0) _ _ (StandsAt clock beam) (λ e. h) (λ e. h)

-- a write that waits is a clock nearer
abbrev IsWithin : ℕ → Option Waiting → Type 0
IsWithin n o = IfSome o (λ w. w.clocks < n)

within-alike : (n : ℕ) (o p : Option Waiting) → p ≡ o → IsWithin n o → IsWithin n p
within-alike n o p e h = rw e h

waited-within : (n : ℕ) (o : Option Waiting) (t : TiaState) → t.waiting ≡ o → IsWithin (n + 1) o → IsWithin n (with_waited o t).waiting
waited-within n None t e k = within-alike n None t.waiting e tt
waited-within n (Some w) t e k =
    cond_both (w.clocks == 0) _ _ (λ (u : TiaState). IsWithin n u.waiting)
    (λ f. within-alike n None _ (acted-alike w.register w.value (record t { waiting = None })).waiting tt)
    (λ f. grind (arith, nat_tests, f, k))

pub hmove_in-waiting : (o : Option ℕ) (t : TiaState) → (with_hmove_in o t).waiting ≡ t.waiting
hmove_in-waiting None t = refl
hmove_in-waiting (Some n) t = cond_both (n == 0) _ _ (λ (u : TiaState). u.waiting ≡ t.waiting) (λ e. refl) (λ e. refl)

-- an HMOVE is a clock nearer
waited-hmove : (o : Option Waiting) (t : TiaState) → (with_waited o t).hmove ≡ t.hmove
waited-hmove None t = refl
waited-hmove (Some w) t =
    cond_both (w.clocks == 0) _ _ (λ (u : TiaState). u.hmove ≡ t.hmove) (λ e. (acted-alike w.register w.value (record t { waiting = None })).hmove) (λ e. refl)

hmove_in-nearer : (o : Option ℕ) (t : TiaState) → t.hmove ≡ o → (with_hmove_in o t).hmove ≡ hmove_after 1 o
hmove_in-nearer None t e = e
hmove_in-nearer (Some n) t e =
    cond_both (n == 0) _ _ (λ (u : TiaState). u.hmove ≡ hmove_after 1 (Some n))
    (λ f. let h = eqb-true n 0 f in cond_below n 1 _ _ (omega arith))
    (λ f. let h = eqb-false n 0 f in cond_above n 1 _ _ _ (omega arith) refl)

-- ---- the rest of a clock
abbrev pub IsSame : TiaState → TiaState → Type 0
IsSame t u = (u.waiting ≡ t.waiting) × (u.hmove ≡ t.hmove) × (u.clock ≡ t.clock) × (u.beam ≡ t.beam)

begun-same : (t u : TiaState) → IsSame t u → IsSame t (at_line_start u)
begun-same t u h = cond_both (u.clock == 0) _ _ (IsSame t) (λ e. h) (λ e. h)

pulsed-same : (t u : TiaState) → IsSame t u → IsSame t (pulsed u)
pulsed-same t u h = cond_both ((u.clock % 4 == 0) && any_moves u) _ _ (IsSame t) (λ e. h) (λ e. h)

playfield-same : (t u : TiaState) → IsSame t u → IsSame t (with_playfield u)
playfield-same t u h =
    cond_both (nat_lt u.clock 68) _ _ (IsSame t) (λ e. h)
    (λ e. cond_both (nat_le 225 u.clock && u.longer) _ _ (IsSame t) (λ f. h) (λ f. cond_both ((u.beam - 68) % 4 == 0) _ _ (IsSame t) (λ g. h) (λ g. h)))

stepped-same : (t u : TiaState) → IsSame t u → IsSame t (stepped u)
stepped-same t u h = cond_both (is_in_blank u) _ _ (IsSame t) (λ e. h) (λ e. h)

pub pixel-same : (t : TiaState) → IsSame (with_waited_writes t) (at_pixel t)
unfolding at_pixel
pixel-same t =
    let waited = with_waited_writes t in
    let begun = at_line_start waited in
    let moved = pulsed begun in
    let drawn = with_playfield moved in
    stepped-same waited drawn (playfield-same waited moved (pulsed-same waited begun (begun-same waited waited (refl, refl, refl, refl))))

abbrev pub IsNext : TiaState → TiaState → Type 0
IsNext t u = (u.waiting ≡ t.waiting) × (u.hmove ≡ t.hmove) × (u.changed ≡ t.changed)

pub next-way : (t : TiaState) → IsNext t (with_next_clock t)
next-way t =
    cond_both (t.clock == 227) _ _ (IsNext t) (λ e. (refl, refl, refl))
    (λ e. cond_both (is_in_blank (at_next_clock t)) _ _ (IsNext t) (λ f. (refl, refl, refl)) (λ f. (refl, refl, refl)))

pub next_beam : ℕ → ℕ → ℕ
next_beam clock beam = if clock == 227 then 0 else min (beam + 1) 227

abbrev pub StandsNext : ℕ → ℕ → TiaState → Type 0
StandsNext clock beam u = (u.clock ≡ (clock + 1) % 228) × (u.beam ≡ next_beam clock beam)

pub next-stands : (t : TiaState) → t.clock < 228 → StandsNext t.clock t.beam (with_next_clock t)
unfolding next_beam
next-stands t few =
    cond_both (t.clock == 227) _ _ (StandsNext t.clock t.beam)
    (λ e. let same = eqb-true t.clock 227 e in (omega arith, rw e refl))
    (λ e. let other = eqb-false t.clock 227 e in
    let stands : (t.clock + 1 ≡ (t.clock + 1) % 228) × (min (t.beam + 1) 227 ≡ (if t.clock == 227 then 0 else min (t.beam + 1) 227)) = (omega arith, rw e refl) in
    cond_both (is_in_blank (at_next_clock t)) _ _ (StandsNext t.clock t.beam) (λ f. stands) (λ f. stands))

-- ---- a clock
record IsClock (before after : TiaState) : Type 0 where
  pub within : (n : ℕ) → IsWithin (n + 1) before.waiting → IsWithin n after.waiting
  pub hmove : after.hmove ≡ hmove_after 1 before.hmove
  pub changed : after.changed ≡ false
  pub clock : after.clock ≡ (before.clock + 1) % 228
  pub beam : after.beam ≡ next_beam before.clock before.beam

waited_writes-stands : (t : TiaState) → IsUnderway t → StandsAt t.clock t.beam (with_waited_writes t)
waited_writes-stands t h =
    hmove_in-stands t.clock t.beam (with_waited_write t).hmove (with_waited_write t) (waited-stands t.waiting t h.waiting)

waited_writes-within : (n : ℕ) (t : TiaState) → IsWithin (n + 1) t.waiting → IsWithin n (with_waited_writes t).waiting
waited_writes-within n t k =
    let w = with_waited_write t in
    within-alike n w.waiting _ (hmove_in-waiting w.hmove w) (waited-within n t.waiting t refl k)

waited_writes-hmove : (t : TiaState) → (with_waited_writes t).hmove ≡ hmove_after 1 t.hmove
waited_writes-hmove t =
    let w = with_waited_write t in hmove_in-nearer w.hmove w refl ∙ ap (hmove_after 1) (waited-hmove t.waiting t)

clock-is : (t : TiaState) → IsUnderway t → IsClock t (after_clock t)
unfolding after_clock
clock-is t h =
    let waited = with_waited_writes t in
    let stands = waited_writes-stands t h in
    let same = pixel-same t in
    let pixel = latched (at_pixel t) in
    let way = next-way pixel in
    let clock : pixel.clock ≡ t.clock = same.2 ∙ stands.0 in
    let beam : pixel.beam ≡ t.beam = same.3 ∙ stands.1 in
    let next = next-stands pixel (rw clock (has_line t h).0.in_line) in
    record {
      within = λ n k. within-alike n waited.waiting _ (way.0 ∙ same.0) (waited_writes-within n t k);
      hmove = way.1 ∙ (same.1 ∙ waited_writes-hmove t);
      changed = way.2;
      clock = next.0 ∙ ap (λ (n : ℕ). (n + 1) % 228) clock;
      beam = next.1 ∙ (ap (λ (n : ℕ). next_beam n pixel.beam) clock ∙ ap (next_beam t.clock) beam);
    }

-- ---- a cycle
minus-twice : (k m n : ℕ) → k - n - m ≡ k - (n + m)
minus-twice k m n = omega arith

tests-alike : (k m n : ℕ) → n ≤ k → nat_lt (k - n) m ≡ nat_lt k (n + m)
tests-alike k m n h = grind (arith, nat_tests, h)

hmove-twice : (m n : ℕ) (o : Option ℕ) → hmove_after m (hmove_after n o) ≡ hmove_after (n + m) o
hmove-twice m n None = refl
hmove-twice m n (Some k) =
    cond_both (nat_lt k n) _ _ (λ (p : Option ℕ). hmove_after m p ≡ hmove_after (n + m) (Some k))
    (λ e. let h = ltb-true k n e in cond_below k (n + m) _ _ (omega arith))
    (λ e. rw (tests-alike k m n (ltb-false k n e), minus-twice k m n) refl)

small-wait : (o : Option Waiting) → IfSome o IsOnItsWay → IsWithin 3 o
small-wait None h = tt
small-wait (Some w) h = omega (arith, h.1, h.2)

no-wait : (o : Option Waiting) → IsWithin 0 o → o ≡ None
no-wait None h = refl
no-wait (Some w) h = absurd (omega (arith, h))

-- a clock that doesn't end its line leaves the beam where the clock is
beam-step : (clock beam clock' beam' : ℕ) → clock < 227 → beam ≡ clock → clock' ≡ (clock + 1) % 228 → beam' ≡ next_beam clock beam
    → (clock' ≡ clock + 1) × (beam' ≡ clock + 1)
unfolding next_beam
beam-step clock beam clock' beam' few e c b = (omega arith, grind (arith, nat_tests, few, e, b))

at_clock : (clock beam : ℕ) → clock < 225 → (nat_le 225 clock || (beam == clock)) ≡ true → beam ≡ clock
at_clock clock beam few h = grind (arith, nat_tests, few, h)

-- where three clocks lead to the end of a line again, there was no RSYNC before them
beam-three : (t u v w : TiaState) → HasBeam t → HasBeam w → IsClock t u → IsClock u v → IsClock v w → w.beam ≡ w.clock
beam-three t u v w h k c1 c2 c3 =
    elim (cases_lt w.clock 225) as (λ _. w.beam ≡ w.clock) [
      | inl few ↦ at_clock w.clock w.beam few k.alike
      | inr many ↦
          let early : t.clock < 225 = omega (arith, c1.clock, c2.clock, c3.clock, h.in_line) in
          let late : 222 ≤ t.clock = omega (arith, c1.clock, c2.clock, c3.clock, h.in_line) in
          let first = beam-step t.clock t.beam u.clock u.beam (omega arith) (at_clock t.clock t.beam early h.alike) c1.clock c1.beam in
          let second = beam-step u.clock u.beam v.clock v.beam (omega arith) (omega arith) c2.clock c2.beam in
          let third = beam-step v.clock v.beam w.clock w.beam (omega arith) (omega arith) c3.clock c3.beam in
          omega arith
    ]

clock-three : (t u v w : ℕ) → t < 228 → u ≡ (t + 1) % 228 → v ≡ (u + 1) % 228 → w ≡ (v + 1) % 228 → w ≡ (t + 3) % 228
clock-three t u v w few a b c = omega arith

pub cycle-is : (t : TiaState) → IsUnderway t → IsCycle t (iterate after_clock 3 t)
cycle-is t h =
    let u = after_clock t in
    let v = after_clock u in
    let w = after_clock v in
    let hu = underway-clock t h in
    let hv = underway-clock u hu in
    let hw = underway-clock v hv in
    let c1 = clock-is t h in
    let c2 = clock-is u hu in
    let c3 = clock-is v hv in
    record {
      waiting = no-wait w.waiting (c3.within 0 (c2.within 1 (c1.within 2 (small-wait t.waiting h.waiting))));
      hmove =
          c3.hmove
          ∙ (ap (λ (o : Option ℕ). hmove_after 1 o) (c2.hmove ∙ ap (λ (o : Option ℕ). hmove_after 1 o) c1.hmove)
          ∙ (ap (λ (o : Option ℕ). hmove_after 1 o) (hmove-twice 1 1 t.hmove) ∙ hmove-twice 1 2 t.hmove));
      changed = c3.changed;
      beam = beam-three t u v w (has_line t h).0 (has_line w hw).0 c1 c2 c3;
      clock = clock-three t.clock u.clock v.clock w.clock (has_line t h).0.in_line c1.clock c2.clock c3.clock;
    }

-- ---- accesses
is-alike : (n : ℕ) → (n == n) ≡ true
is-alike n = eq-eqb n n refl

pub player-unchanged : (p : Player) → is_player_changed p p ≡ false
player-unchanged p = rw (is-alike (graphic_of p), is-alike p.refp, is-alike p.vdelp) (and_right (is_drawn p.width p.copy) false refl)

pub missile-unchanged : (m : Missile) → is_missile_changed m m ≡ false
missile-unchanged m = rw (is-alike m.enam, is-alike m.resmp) refl

pub ball-unchanged : (b : Ball) → is_ball_changed b b ≡ false
ball-unchanged b = rw (is-alike (enable_of b), is-alike b.vdelbl) refl

-- a write that keeps the objects
kept-changed : (changed : Bool) (p q : Player) (m n : Missile) (b : Ball) → changed ≡ false
    → (changed || (is_player_changed p p || is_player_changed q q || is_missile_changed m m || is_missile_changed n n || is_ball_changed b b)) ≡ false
kept-changed changed p q m n b e =
    rw (e, player-unchanged p, player-unchanged q, missile-unchanged m, missile-unchanged n, ball-unchanged b) refl

at_rest-changed : (t : TiaState) (changed : Bool) → changed ≡ false → IsTrue (is_at_rest t) → IsTrue (is_at_rest (record t { changed = changed }))
at_rest-changed t changed e h =
    let beam = and_parts _ _ h in
    let still = and_parts _ _ beam.0 in
    let unchanged : not changed ≡ true = rw e refl in
    and_from _ _ (and_from _ _ still.0 unchanged) beam.1

at_rest-unchanged : (t : TiaState) → IsTrue (is_at_rest t) → IsTrue (is_at_rest (record t { changed = t.changed || is_changed t t }))
at_rest-unchanged t h =
    let unchanged = not-true t.changed (and_parts _ _ (and_parts _ _ h).0).1 in
    at_rest-changed t _ (kept-changed t.changed t.player0 t.player1 t.missile0 t.missile1 t.ball unchanged) h

register_write-at_rest : (r : Register) (v : ℕ) (t : TiaState) → IsTrue (leaves_at_rest r) → IsTrue (is_at_rest t)
    → IsTrue (is_at_rest (after_register_write r v t))
register_write-at_rest Vsync v t k h = at_rest-unchanged t h
register_write-at_rest Wsync v t k h = at_rest-unchanged t h
register_write-at_rest Ignored v t k h = at_rest-unchanged t h
register_write-at_rest r v t k h = absurd (false≢true k)

pub write-at_rest : (t : TiaState) (number v : ℕ) → IsTrue (leaves_at_rest (register_of number)) → IsTrue (is_at_rest t)
    → IsTrue (is_at_rest (tia_after_write t number v))
unfolding tia_after_write
write-at_rest t number v k h = register_write-at_rest (register_of number) v t k h

-- of a read, what is on its way, the clock and the beam are the same
read-alike : (t : TiaState) (number : ℕ) → (P : TiaState → Type 0) → P t → ((latches : ℕ) → P (record t { latches = latches })) → P (tia_after_read t number)
read-alike t number P h k =
    cond_both (not (has_bit t.vblank 6)) _ _ P (λ e. h)
    (λ e. cond_both ((number % 16 == 12) && t.fire0) _ _ P (λ f. k _) (λ f. cond_both ((number % 16 == 13) && t.fire1) _ _ P (λ g. k _) (λ g. h)))

pub read-at_rest : (t : TiaState) (number : ℕ) → IsTrue (is_at_rest t) → IsTrue (is_at_rest (tia_after_read t number))
read-at_rest t number h = read-alike t number (λ u. IsTrue (is_at_rest u)) h (λ latches. h)

-- which accesses keep an HMOVE on its way, and the clock
pub read-kept : (t : TiaState) (number : ℕ) → let after = tia_after_read t number in (after.hmove ≡ t.hmove) × (after.clock ≡ t.clock)
read-kept t number = read-alike t number (λ u. (u.hmove ≡ t.hmove) × (u.clock ≡ t.clock)) (refl, refl) (λ latches. (refl, refl))

register_write-hmove : (r : Register) (v : ℕ) (t : TiaState) → r ≢ Hmove → (after_register_write r v t).hmove ≡ t.hmove
register_write-hmove Hmove v t k = absurd (k refl)
register_write-hmove r v t k = refl

pub write-hmove : (t : TiaState) (number v : ℕ) → register_of number ≢ Hmove → (tia_after_write t number v).hmove ≡ t.hmove
unfolding tia_after_write
write-hmove t number v k = register_write-hmove (register_of number) v t k

register_write-clock : (r : Register) (v : ℕ) (t : TiaState) → let after = after_register_write r v t in (after.clock ≡ t.clock) ⊎ (after.clock ≡ 225)
register_write-clock Rsync v t = inr refl
register_write-clock r v t = inl refl

pub write-clock : (t : TiaState) (number v : ℕ) → let after = tia_after_write t number v in (after.clock ≡ t.clock) ⊎ (after.clock ≡ 225)
unfolding tia_after_write
write-clock t number v = register_write-clock (register_of number) v t

-- at a frame's end the line and the buttons are as a record has them
pub left-settled : (t : TiaState) → IsTrue (is_at_rest t) → IsTrue (is_settled (at_frame_start (with_fire t false false)))
left-settled t h = and_from _ _ (and_from _ _ (and_from _ _ h refl) refl) refl
