-- Writes that the beam can't tell, but for the colours of its pixels. This project's own.
use Rattle.std.specs.Prelude.{◌≡◌, ℕ, Bool, true, false}
use Rattle.tia_core.specs.Objects.{objects_at}
use Rattle.tia_core.specs.Private.Unchanged.{after_beam}
use Rattle.tia_core.specs.declared.fields.TiaFields.{TiaFields}
use Rattle.tia_core.specs.declared.register.Register.{Register}
use Rattle.tia_core.specs.declared.register.Register.TheVariants.{Colup0, Colup1, Colupf, Colubk}

-- the registers that hold a colour
abbrev pub is_unseen : Register → Bool
is_unseen Colup0 = true
is_unseen Colup1 = true
is_unseen Colupf = true
is_unseen Colubk = true
is_unseen _ = false

-- a change of a TIA's numbers that leaves the beam and the objects, and comes to the same before and
-- after the beam has gone on
pub record IsUnseen (change : TiaFields → TiaFields) : Type 0 where
  pub objects : (t : TiaFields) (x : ℕ) → objects_at (change t) x ≡ objects_at t x
  pub clock : (t : TiaFields) → (change t).clock ≡ t.clock
  pub collisions : (t : TiaFields) → (change t).collisions ≡ t.collisions
  pub comb : (t : TiaFields) → (change t).comb ≡ t.comb
  pub later : (t : TiaFields) (collisions clock comb : ℕ) → change (after_beam t collisions clock comb) ≡ after_beam (change t) collisions clock comb
