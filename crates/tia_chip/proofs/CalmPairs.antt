-- The pairs that a clock of the picture latches.
use Rattle.std.proofs.Common.{◌≡◌, ◌∙◌, ◌&&◌, ◌||◌, not, Bool, true, false, ℕ, refl, ap, if◌then◌else◌, bit_or}
use Rattle.tia_chip.proofs.CalmBlank.{kept}
use Rattle.tia_chip.proofs.CalmClocks.{pixel-steps, shown}
use Rattle.tia_chip.specs.Bits.{has_bit}
use Rattle.tia_chip.specs.Blank.{is_in_blank}
use Rattle.tia_chip.specs.Calm.{IsCalmInPicture, after_steps}
use Rattle.tia_chip.specs.Clock.{after_clock, at_pixel}
use Rattle.tia_chip.specs.Collision.{is_latching, latched, pairs_of}
use Rattle.tia_chip.specs.Motion.{pulses_on}
use Rattle.tia_chip.specs.Objects.{lit_objects}
use Rattle.tia_chip.specs.Playfield.{with_playfield}
use Rattle.tia_chip.specs.declared.state.TiaState.{TiaState}

pub and-true : (b : Bool) → (b && true) ≡ b
and-true true = refl
and-true false = refl

pub open-test : (vblank blank pulses changed : Bool) → blank ≡ false → (not vblank && (not blank || pulses || changed)) ≡ not vblank
open-test vblank blank pulses changed e = rw e (and-true (not vblank))

turned : (b : Bool) (x y : ℕ) → (if not b then x else y) ≡ (if b then y else x)
turned true x y = refl
turned false x y = refl

pub clock-pairs : (t : TiaState) → IsCalmInPicture t
    → (after_clock t).collisions ≡ (if has_bit t.vblank 1 then t.collisions else bit_or t.collisions (pairs_of (lit_objects (at_pixel t))))
unfolding after_clock
clock-pairs t h =
    let x = record (after_steps 1 t) { playfield = (with_playfield t).playfield; mirrored = (with_playfield t).mirrored } in
    let pairs = pairs_of (lit_objects (at_pixel t)) in
    kept (latched (at_pixel t))
    ∙ (ap (λ (q : TiaState). if is_latching q then bit_or q.collisions pairs else q.collisions) (pixel-steps t h)
    ∙ (ap (λ (b : Bool). if b then bit_or t.collisions pairs else t.collisions) (open-test (has_bit t.vblank 1) (is_in_blank t) (pulses_on x) t.changed (shown t h))
    ∙ turned (has_bit t.vblank 1) (bit_or t.collisions pairs) t.collisions))
