-- In the picture it is nothing to a clock whether a write has changed an object: each latches pairs.
use Rattle.std.proofs.Common.{◌≡◌, ◌∙◌, ℕ, ◌-◌, ◌%◌, ◌==◌, ◌&&◌, Bool, false, ap, sym, if◌then◌else◌, bit_or}
use Rattle.std.specs.Prelude.{nat_le, nat_lt}
use Rattle.tia_chip.proofs.CalmClocks.{no-writes, pixel-steps, shown}
use Rattle.tia_chip.proofs.CalmPairs.{open-test}
use Rattle.tia_chip.proofs.WaitingLemmas.{of-both}
use Rattle.tia_chip.specs.Ball.{ball_after_step}
use Rattle.tia_chip.specs.Bits.{has_bit}
use Rattle.tia_chip.specs.Blank.{is_in_blank}
use Rattle.tia_chip.specs.Calm.{IsCalmInPicture}
use Rattle.tia_chip.specs.Clock.{after_clock, at_line_start, at_pixel, stepped, with_next_clock}
use Rattle.tia_chip.specs.Collision.{latched, pairs_of}
use Rattle.tia_chip.specs.Missile.{missile_after_step}
use Rattle.tia_chip.specs.Motion.{after_pulse, any_moves, pulsed, pulses_on}
use Rattle.tia_chip.specs.Objects.{lit_objects}
use Rattle.tia_chip.specs.Player.{player_after_step}
use Rattle.tia_chip.specs.Playfield.{mirrored_at, playfield_at, playfield_bit, playfield_index, with_playfield}
use Rattle.tia_chip.specs.declared.state.TiaState.{TiaState}

abbrev on : Bool → TiaState → TiaState
on changed t = record t { changed = changed }

start-on : (c : Bool) (t : TiaState) → at_line_start (on c t) ≡ on c (at_line_start t)
start-on c t = of-both (t.clock == 0) (record t { longer = false }) t (λ x. on c x)

pulse-on : (c : Bool) (t : TiaState) → pulsed (on c t) ≡ on c (pulsed t)
pulse-on c t = of-both ((t.clock % 4 == 0) && any_moves t) (after_pulse t) t (λ x. on c x)

take-on : (c : Bool) (t : TiaState) (x : ℕ) → playfield_at (on c t) x ≡ on c (playfield_at t x)
take-on c t x =
    of-both (x % 4 == 0) (record t { mirrored = mirrored_at t x; playfield = playfield_bit t.pf0 t.pf1 t.pf2 (playfield_index (mirrored_at t x) x) }) t (λ y. on c y)

field-on : (c : Bool) (t : TiaState) → with_playfield (on c t) ≡ on c (with_playfield t)
field-on c t =
    let off = record t { playfield = false } in
    let taken = playfield_at t (t.beam - 68) in
    let b = nat_le 225 t.clock && t.longer in
    ap (λ (y : TiaState). if nat_lt t.clock 68 then on c t else (if b then on c off else y)) (take-on c t (t.beam - 68))
    ∙ (ap (λ (y : TiaState). if nat_lt t.clock 68 then on c t else y) (of-both b off taken (λ x. on c x))
    ∙ of-both (nat_lt t.clock 68) t (if b then off else taken) (λ x. on c x))

step-on : (c : Bool) (t : TiaState) → stepped (on c t) ≡ on c (stepped t)
step-on c t =
    of-both (is_in_blank t) t (record t {
      player0 = player_after_step t.player0;
      player1 = player_after_step t.player1;
      missile0 = missile_after_step t.player0.nusiz t.clock t.missile0;
      missile1 = missile_after_step t.player1.nusiz t.clock t.missile1;
      ball = ball_after_step t.ctrlpf false t.ball;
    }) (λ x. on c x)

pixel-on : (c : Bool) (t : TiaState) → IsCalmInPicture t → at_pixel (on c t) ≡ on c (at_pixel t)
unfolding at_pixel
pixel-on c t h =
    ap (λ (x : TiaState). stepped (with_playfield (pulsed (at_line_start x)))) (no-writes (on c t) h.calm.waiting h.calm.hmove)
    ∙ (ap (λ (x : TiaState). stepped (with_playfield (pulsed x))) (start-on c t)
    ∙ (ap (λ (x : TiaState). stepped (with_playfield x)) (pulse-on c (at_line_start t))
    ∙ (ap (λ (x : TiaState). stepped x) (field-on c (pulsed (at_line_start t)))
    ∙ (step-on c (with_playfield (pulsed (at_line_start t)))
    ∙ ap (λ (x : TiaState). on c (stepped (with_playfield (pulsed (at_line_start x))))) (sym (no-writes t h.calm.waiting h.calm.hmove))))))

latched-any : (c : Bool) (t : TiaState) → is_in_blank t ≡ false → latched (on c t) ≡ latched t
latched-any c t e =
    ap (λ (b : Bool). record t { collisions = if b then bit_or t.collisions (pairs_of (lit_objects t)) else t.collisions; changed = false })
    (open-test (has_bit t.vblank 1) (is_in_blank t) (pulses_on t) c e ∙ sym (open-test (has_bit t.vblank 1) (is_in_blank t) (pulses_on t) t.changed e))

pub clock-changed : (t : TiaState) (c : Bool) → IsCalmInPicture t → after_clock (record t { changed = c }) ≡ after_clock t
unfolding after_clock
clock-changed t c h =
    let e : is_in_blank (at_pixel t) ≡ false = ap (λ (x : TiaState). is_in_blank x) (pixel-steps t h) ∙ shown t h in
    ap (λ (x : TiaState). with_next_clock (latched x)) (pixel-on c t h) ∙ ap (λ (x : TiaState). with_next_clock x) (latched-any c (at_pixel t) e)
