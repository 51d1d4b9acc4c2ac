-- What is true of the ball's numbers, and that steps, looks and writes keep it.
use Rattle.std.proofs.Common.{◌≡◌, ℕ, ◌+◌, ◌%◌, ◌<◌, ◌≤◌, ◌==◌, ◌&&◌, ◌||◌, not, max, Bool, true, false, arith, refl}
use Rattle.std.proofs.Common.{Option, Some, None, rules}
use Rattle.std.proofs.lemmas.Bool.{cond_both}
use Rattle.std.proofs.lemmas.Bool.Decides.{nat_tests}
use Rattle.std.specs.Prelude.{nat_le, nat_lt}
use Rattle.tia_chip.proofs.UnderwayMissiles.{IsSize, IsSize-of}
use Rattle.tia_chip.proofs.UnderwayPlayers.{next_counter-small}
use Rattle.tia_chip.specs.Ball.{ball_after_step, ball_after_strobe, begun_place, begun_size, ending_size, looked_at_ball, stepped_place}
use Rattle.tia_chip.specs.Blank.{is_in_blank}
use Rattle.tia_chip.specs.Counter.{begins_copy}
use Rattle.tia_chip.specs.Missile.{size_of}
use Rattle.tia_chip.specs.Motion.{ball_after_pulse, still_moves}
use Rattle.tia_chip.specs.Numbers.{ball_copy_number, size_number}
use Rattle.tia_chip.specs.Registers.{fits_register}
use Rattle.tia_chip.specs.declared.ball.Ball.{Ball}
use Rattle.tia_chip.specs.declared.register.Register.TheVariants.{Enabl, Hmbl, Vdelbl}
use Rattle.tia_chip.specs.declared.state.TiaState.{TiaState}

-- an own size is 0, 1, 2, 4 or 8
abbrev pub IsOwnSize : ℕ → Type 0
IsOwnSize size = (nat_lt (size_number size) 4 || (size == 0)) ≡ true

abbrev pub IsPlace : Option ℕ → Type 0
IsPlace place = ball_copy_number place < 13

pub record IsBallUnderway (b : Ball) : Type 0 where
  pub enabl_new : fits_register Enabl b.enabl_new ≡ true
  pub enabl_old : fits_register Enabl b.enabl_old ≡ true
  pub vdelbl : fits_register Vdelbl b.vdelbl ≡ true
  pub hmbl : fits_register Hmbl b.hmbl ≡ true
  pub counter : b.counter < 160
  pub place : IsPlace b.place
  pub own_size : IsOwnSize b.own_size
  pub phase : b.phase < 4

pub own_size-small : (size : ℕ) → IsOwnSize size → size ≤ 8
own_size-small size h = grind (arith, nat_tests, h)

pub size-small : (size : ℕ) → IsSize size → size ≤ 8
size-small size h = grind (arith, h)

-- steps
ending_size-small : (ctrlpf : ℕ) (in_blank : Bool) (b : Ball) → IsOwnSize b.own_size → ending_size ctrlpf in_blank b ≤ 8
ending_size-small ctrlpf in_blank b h =
    cond_both (b.moves && not in_blank) _ _ (λ n. n ≤ 8) (λ e. own_size-small b.own_size h) (λ e. size-small (size_of ctrlpf) (IsSize-of ctrlpf))

IsPlace-stepped : (size : ℕ) (place : Option ℕ) → size ≤ 8 → IsPlace (stepped_place size place)
IsPlace-stepped size None s = omega arith
IsPlace-stepped size (Some place) s =
    cond_both (nat_le (4 + size) (place + 1)) _ _ IsPlace (λ e. omega arith) (λ e. grind (arith, nat_tests, s, e))

IsPlace-begun : (ctrlpf : ℕ) (in_blank : Bool) (b : Ball) → begun_place ctrlpf in_blank b < 12
IsPlace-begun ctrlpf in_blank b =
    cond_both ((b.phase == 1) && b.moves && not in_blank && nat_le (size_of ctrlpf) 2) _ _ (λ n. n < 12) (λ e. omega arith) (λ e. omega arith)

IsOwnSize-of : (size : ℕ) → IsSize size → IsOwnSize size
IsOwnSize-of size h = grind (arith, nat_tests, h)

IsOwnSize-least : (size : ℕ) → IsSize size → IsOwnSize (max size 2)
IsOwnSize-least size h = grind (arith, nat_tests, h)

IsOwnSize-begun : (ctrlpf phase : ℕ) → IsOwnSize (begun_size ctrlpf phase)
IsOwnSize-begun ctrlpf phase =
    cond_both (phase == 1) _ _ IsOwnSize (λ e. IsOwnSize-least (size_of ctrlpf) (IsSize-of ctrlpf))
    (λ e. cond_both (phase == 2) _ _ IsOwnSize (λ f. refl) (λ f. IsOwnSize-of (size_of ctrlpf) (IsSize-of ctrlpf)))

pub ball-stepped : (ctrlpf : ℕ) (in_blank : Bool) (b : Ball) → IsBallUnderway b → IsBallUnderway (ball_after_step ctrlpf in_blank b)
ball-stepped ctrlpf in_blank b h =
    cond_both (begins_copy 0 b.counter) _ _ IsBallUnderway
    (λ e. record { enabl_new = h.enabl_new; enabl_old = h.enabl_old; vdelbl = h.vdelbl; hmbl = h.hmbl; counter = next_counter-small b.counter h.counter; place = omega (arith, IsPlace-begun ctrlpf in_blank b); own_size = IsOwnSize-begun ctrlpf b.phase; phase = h.phase })
    (λ e. record { enabl_new = h.enabl_new; enabl_old = h.enabl_old; vdelbl = h.vdelbl; hmbl = h.hmbl; counter = next_counter-small b.counter h.counter; place = IsPlace-stepped (ending_size ctrlpf in_blank b) b.place (ending_size-small ctrlpf in_blank b h.own_size); own_size = h.own_size; phase = h.phase })

-- looks, and what HMOVE changes
pub ball-looked_at : (b : Ball) → IsBallUnderway b → IsBallUnderway (looked_at_ball b)
ball-looked_at b h = search rules

pub ball-moved : (b : Ball) (moves : Bool) → IsBallUnderway b → IsBallUnderway (record b { moves = moves })
ball-moved b moves h = search rules

pub ball-unseen : (b : Ball) → IsBallUnderway b → IsBallUnderway (record b { seen = false })
ball-unseen b h = search rules

ball-phased : (b : Ball) (moves : Bool) → IsBallUnderway b → IsBallUnderway (record b { moves = moves; phase = b.counter % 4 })
ball-phased b moves h =
    record { enabl_new = h.enabl_new; enabl_old = h.enabl_old; vdelbl = h.vdelbl; hmbl = h.hmbl; counter = h.counter; place = h.place; own_size = h.own_size; phase = omega arith }

pub ball-pulsed : (t : TiaState) (b : Ball) → IsBallUnderway b → IsBallUnderway (ball_after_pulse t b)
ball-pulsed t b h =
    let moves = b.moves && still_moves b.hmbl t.pulses in
    let now = record b { moves = moves; phase = b.counter % 4 } in
    cond_both (moves && is_in_blank t) _ _ IsBallUnderway (λ e. ball-stepped t.ctrlpf true now (ball-phased b moves h)) (λ e. ball-phased b moves h)

-- RESBL
pub ball-strobed : (late : ℕ) (b : Ball) → late ≤ 2 → IsBallUnderway b → IsBallUnderway (ball_after_strobe late b)
ball-strobed late b l h =
    record { enabl_new = h.enabl_new; enabl_old = h.enabl_old; vdelbl = h.vdelbl; hmbl = h.hmbl; counter = omega arith; place = omega arith; own_size = h.own_size; phase = h.phase }

pub stepped-moves : (ctrlpf : ℕ) (in_blank : Bool) (b : Ball) → (ball_after_step ctrlpf in_blank b).moves ≡ b.moves
stepped-moves ctrlpf in_blank b = cond_both (begins_copy 0 b.counter) _ _ (λ (after : Ball). after.moves ≡ b.moves) (λ e. refl) (λ e. refl)
