-- Writes that the beam can't tell come to the same before and after its clocks.
use Rattle.std.proofs.Common.{◌≡◌, ℕ, zero, suc, ◌+◌, ◌-◌, ◌%◌, ◌==◌, Bool, true, false, refl, sym, ap, ◌∙◌, arith}
use Rattle.std.specs.Fn.{iterate}
use Rattle.tia_core.specs.Clock.{after_clock, after_pixel, collisions_after, with_next_beam}
use Rattle.tia_core.specs.Objects.{objects_at}
use Rattle.tia_core.specs.Private.Unchanged.{after_beam}
use Rattle.tia_core.specs.Private.Unseen.{is_unseen, IsUnseen}
use Rattle.tia_core.specs.Registers.{register_of}
use Rattle.tia_core.specs.TiaState.{TiaState}
use Rattle.tia_core.specs.Write.{fields_after, tia_after_write}
use Rattle.tia_core.specs.declared.fields.TiaFields.{TiaFields}
use Rattle.tia_core.specs.declared.register.Register.{Register}
use Rattle.tia_core.specs.declared.register.Register.TheVariants.{Colup0, Colup1, Colupf, Colubk}

-- ---- any such change
module _ (change : TiaFields → TiaFields) (unseen : IsUnseen change) where
  abbrev changed : TiaState → TiaState
  changed s = record s { fields = change s.fields }

  pixel-changed : (s : TiaState) → collisions_after (change s.fields) ≡ collisions_after s.fields
  pixel-changed s = rw (unseen.objects s.fields ((change s.fields).clock - 68), unseen.clock s.fields, unseen.collisions s.fields) refl

  -- the numbers with the beam elsewhere, before and after the change
  moved-changed : (t : TiaFields) (collisions clock comb before : ℕ) → before ≡ collisions
      → after_beam (change t) before clock comb ≡ change (after_beam t collisions clock comb)
  moved-changed t collisions clock comb before same =
      ap (λ (c : ℕ). after_beam (change t) c clock comb) same ∙ sym (unseen.later t collisions clock comb)

  after_pixel-changed : (s : TiaState) → after_pixel (changed s) ≡ changed (after_pixel s)
  after_pixel-changed s =
      let t = s.fields in
      ap (λ (k : ℕ). record s { fields = after_beam (change t) (collisions_after (change t)) k (change t).comb }) (unseen.clock t)
      ∙ ap (λ (b : ℕ). record s { fields = after_beam (change t) (collisions_after (change t)) t.clock b }) (unseen.comb t)
      ∙ ap (λ (f : TiaFields). record s { fields = f }) (moved-changed t (collisions_after t) t.clock t.comb _ (pixel-changed s))

  next-changed : (s : TiaState) (last : Bool) → (s.fields.clock == 227) ≡ last → with_next_beam (changed s) ≡ changed (with_next_beam s)
  next-changed s true last =
      let t = s.fields in
      rw (unseen.clock t, last)
      (ap (λ (f : TiaFields). record s { fields = f; line = (s.line + 1) % 65536 }) (moved-changed t t.collisions 0 0 (change t).collisions (unseen.collisions t)))
  next-changed s false not =
      let t = s.fields in
      rw (unseen.clock t, not)
      (ap (λ (b : ℕ). record s { fields = record (change t) { clock = t.clock + 1; comb = b } }) (unseen.comb t)
      ∙ ap (λ (f : TiaFields). record s { fields = f }) (moved-changed t t.collisions (t.clock + 1) t.comb (change t).collisions (unseen.collisions t)))

  clock-changed : (s : TiaState) → after_clock (changed s) ≡ changed (after_clock s)
  clock-changed s = ap with_next_beam (after_pixel-changed s) ∙ next-changed (after_pixel s) (s.fields.clock == 227) refl

  pub clocks-changed : (n : ℕ) (s : TiaState) → iterate after_clock n (changed s) ≡ changed (iterate after_clock n s)
  clocks-changed zero s = refl
  clocks-changed (suc n) s = ap (iterate after_clock n) (clock-changed s) ∙ clocks-changed n (after_clock s)

-- ---- writes
pub unseen-writes : (register : Register) (fire0 fire1 : Bool) (value : ℕ) → is_unseen register ≡ true
    → IsUnseen (λ t. fields_after t fire0 fire1 register value)
unfolding objects_at
unseen-writes Colup0 fire0 fire1 value h = record { objects = λ t x. refl; clock = λ t. refl; collisions = λ t. refl; comb = λ t. refl; later = λ t c k b. refl }
unseen-writes Colup1 fire0 fire1 value h = record { objects = λ t x. refl; clock = λ t. refl; collisions = λ t. refl; comb = λ t. refl; later = λ t c k b. refl }
unseen-writes Colupf fire0 fire1 value h = record { objects = λ t x. refl; clock = λ t. refl; collisions = λ t. refl; comb = λ t. refl; later = λ t c k b. refl }
unseen-writes Colubk fire0 fire1 value h = record { objects = λ t x. refl; clock = λ t. refl; collisions = λ t. refl; comb = λ t. refl; later = λ t c k b. refl }
unseen-writes register fire0 fire1 value h = cc

-- the buttons make no difference to it, and it asks for nothing
unseen-buttons : (register : Register) (t : TiaFields) (a b c d : Bool) (value : ℕ) → is_unseen register ≡ true
    → fields_after t a b register value ≡ fields_after t c d register value
unseen-buttons register t a b c d value h = grind arith

-- clocks after such a write come to the write after the clocks
pub clocks-after-unseen : (n : ℕ) (s : TiaState) (number value : ℕ) → is_unseen (register_of number) ≡ true
    → iterate after_clock n (tia_after_write s number value) ≡ tia_after_write (iterate after_clock n s) number value
unfolding tia_after_write
clocks-after-unseen n s number value h =
    let after : TiaState = iterate after_clock n s in
    clocks-changed (λ t. fields_after t s.fire0 s.fire1 (register_of number) value) (unseen-writes (register_of number) s.fire0 s.fire1 value h) n s
    ∙ ap (λ (f : TiaFields). record after { fields = f })
    (unseen-buttons (register_of number) after.fields s.fire0 s.fire1 after.fire0 after.fire1 value h)
