-- Reads, and steps that a TIA owes.
use Rattle.std.proofs.Common.{◌≡◌, ◌∙◌, ℕ, ◌%◌, ◌==◌, ◌&&◌, not, Bool, true, false, refl, ap, sym, if◌then◌else◌}
use Rattle.std.proofs.lemmas.Bool.{cond_both}
use Rattle.tia_chip.specs.Bits.{has_bit}
use Rattle.tia_chip.specs.Motion.{any_moves}
use Rattle.tia_chip.specs.Private.Owed.{made_steps}
use Rattle.tia_chip.specs.Read.{tia_after_read}
use Rattle.tia_chip.specs.declared.state.TiaState.{TiaState}

-- a read changes the latches alone
abbrev OnlyLatches : TiaState → TiaState → Type 0
OnlyLatches t after = after ≡ record t { latches = after.latches }

read-alone : (number : ℕ) (t : TiaState) → OnlyLatches t (tia_after_read t number)
read-alone number t =
    cond_both (not (has_bit t.vblank 6)) _ _ (OnlyLatches t) (λ e. refl)
    (λ e. cond_both ((number % 16 == 12) && t.fire0) _ _ (OnlyLatches t) (λ f. refl)
    (λ f. cond_both ((number % 16 == 13) && t.fire1) _ _ (OnlyLatches t) (λ g. refl) (λ g. refl)))

pub read-moves : (number : ℕ) (t : TiaState) → any_moves (tia_after_read t number) ≡ any_moves t
read-moves number t = ap any_moves (read-alone number t)

either : (b : Bool) (x x' y y' : TiaState) → x.latches ≡ x'.latches → y.latches ≡ y'.latches → (if b then x else y).latches ≡ (if b then x' else y').latches
either true x x' y y' e f = e
either false x x' y y' e f = f

-- and they don't depend on the objects
latches-same : (number n : ℕ) (looked : Bool) (t : TiaState) → (tia_after_read t number).latches ≡ (tia_after_read (made_steps n looked t) number).latches
latches-same number n looked t =
    let one = not (has_bit t.vblank 6) in
    let two = (number % 16 == 12) && t.fire0 in
    let three = (number % 16 == 13) && t.fire1 in
    either one t (made_steps n looked t) _ _ refl (either two _ _ _ _ refl (either three _ _ t (made_steps n looked t) refl refl))

pub read-made : (number n : ℕ) (looked : Bool) (t : TiaState) → made_steps n looked (tia_after_read t number) ≡ tia_after_read (made_steps n looked t) number
read-made number n looked t =
    let s = made_steps n looked t in
    ap (made_steps n looked) (read-alone number t)
    ∙ (ap (λ (k : ℕ). record s { latches = k }) (latches-same number n looked t) ∙ sym (read-alone number s))
