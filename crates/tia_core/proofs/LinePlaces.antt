-- Places on a line of 160 pixels.
use Rattle.std.proofs.Common.{◌≡◌, ℕ, ◌*◌, ◌<◌, ◌%◌, arith, refl, ap, ℤ, pos, negsuc, ◌+ℤ◌}
use Rattle.std.proofs.Common.{◌/◌, nat_lt, true, false, inl, inr, if◌then◌else◌}
use Rattle.std.proofs.Common.{unsigned_abs, ◌+◌, ◌-◌, ◌-ℤ◌, ◌∙◌, sym}
use Rattle.std.proofs.lemmas.Int.{int_rem_euclid_is, ints}
use Rattle.std.proofs.lemmas.Bool.{cases_lt}
use Rattle.std.proofs.lemmas.Bool.Decides.{nat_tests}
use Rattle.tia_core.specs.Position.{modulo_160, moved_position}

-- with k lines added the number is the natural m
pub modulo_160-is : (z : ℤ) (k m : ℕ) → z +ℤ pos (k * 160) ≡ pos m → modulo_160 z ≡ m % 160
unfolding modulo_160
modulo_160-is z k m e = ap unsigned_abs (int_rem_euclid_is z (pos 160) 160 k m (omega arith) refl e)

-- a place that lies so far left or right of another
moved-left : (position count moved : ℕ) → position < 160 → count < 16 → moved ≡ (position + 160 - count) % 160
    → moved ≡ modulo_160 (pos position -ℤ pos count)
moved-left position count moved p h e = e ∙ sym (modulo_160-is (pos position -ℤ pos count) 1 (position + 160 - count) (omega (arith, ints)))

moved-right : (position count moved : ℕ) → position < 160 → count < 16 → moved ≡ (position + count) % 160
    → moved ≡ modulo_160 (pos position +ℤ pos count)
moved-right position count moved p h e = e ∙ sym (modulo_160-is (pos position +ℤ pos count) 0 (position + count) (omega (arith, ints)))

-- a place that lies so far right of another, going round, is where HMOVE moves an object
pub moved-round : (motion position right moved : ℕ) → motion < 256 → position < 160
    → right ≡ (if nat_lt (motion / 16) 8 then (160 - motion / 16) % 160 else 16 - motion / 16)
    → moved ≡ (position + right) % 160 → moved ≡ moved_position motion position
moved-round motion position right moved m p r e = elim (cases_lt (motion / 16) 8) [
  | inl lt ↦ (let yes : nat_lt (motion / 16) 8 ≡ true = grind (arith, nat_tests) in
      let f : right ≡ (160 - motion / 16) % 160 = rw yes at r in
      rw yes (moved-left position (motion / 16) moved p (omega arith) (omega arith)))
  | inr le ↦ (let no : nat_lt (motion / 16) 8 ≡ false = grind (arith, nat_tests) in
      let f : right ≡ 16 - motion / 16 = rw no at r in
      rw no (moved-right position (16 - motion / 16) moved p (omega arith) (omega arith)))
]

pub modulo_160-lt : (z : ℤ) → modulo_160 z < 160
unfolding modulo_160
modulo_160-lt (pos n) = omega arith
modulo_160-lt (negsuc n) = omega arith
