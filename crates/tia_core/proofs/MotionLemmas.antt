-- HMOVE leaves an object without motion where it is.
use Rattle.std.proofs.Common.{◌≡◌, ℕ, ◌<◌, pos, ◌-ℤ◌, Bool}
use Rattle.std.proofs.Common.{bit_or, refl, ◌∙◌, arith}
use Rattle.std.proofs.lemmas.Int.{ints}
use Rattle.std.proofs.lemmas.Nat.{le_or_l, le_or_r}
use Rattle.tia_core.specs.Objects.{objects_at}
use Rattle.tia_core.specs.Position.{moved_position}
use Rattle.tia_core.specs.Private.Lawful.{IsLawfulTia}
use Rattle.tia_core.specs.Write.{fields_after}
use Rattle.tia_core.specs.declared.fields.TiaFields.{TiaFields}
use Rattle.tia_core.specs.declared.register.Register.TheVariants.{Hmove}
use Rattle.tia_core.proofs.LinePlaces.{modulo_160-is}

moved-none : (position : ℕ) → position < 160 → moved_position 0 position ≡ position
moved-none position h = modulo_160-is (pos position -ℤ pos 0) 0 position (omega (arith, ints)) ∙ omega arith

-- a number is 0 if it is 0 with others
none-set : (a b c d e : ℕ) → bit_or (bit_or (bit_or (bit_or a b) c) d) e ≡ 0 → (a ≡ 0) × (b ≡ 0) × (c ≡ 0) × (d ≡ 0) × (e ≡ 0)
none-set a b c d e h =
    let p = le_or_l (bit_or (bit_or (bit_or a b) c) d) e in
    let q = le_or_r (bit_or (bit_or (bit_or a b) c) d) e in
    let r = le_or_l (bit_or (bit_or a b) c) d in
    let s = le_or_r (bit_or (bit_or a b) c) d in
    let t = le_or_l (bit_or a b) c in
    let u = le_or_r (bit_or a b) c in
    let v = le_or_l a b in
    let w = le_or_r a b in
    (omega arith, omega arith, omega arith, omega arith, omega arith)

pub unmoved-objects : (t : TiaFields) (fire0 fire1 : Bool) (v x : ℕ) → IsLawfulTia t
    → bit_or (bit_or (bit_or (bit_or t.hmp0 t.hmp1) t.hmm0) t.hmm1) t.hmbl ≡ 0
    → objects_at (fields_after t fire0 fire1 Hmove v) x ≡ objects_at t x
unfolding objects_at
unmoved-objects t fire0 fire1 v x h none =
    let n = none-set t.hmp0 t.hmp1 t.hmm0 t.hmm1 t.hmbl none in
    rw (
      n.0,
      n.1,
      n.2,
      n.3,
      n.4,
      moved-none t.position_p0 h.position_p0,
      moved-none t.position_p1 h.position_p1,
      moved-none t.position_m0 h.position_m0,
      moved-none t.position_m1 h.position_m1,
      moved-none t.position_bl h.position_bl,
    ) refl
