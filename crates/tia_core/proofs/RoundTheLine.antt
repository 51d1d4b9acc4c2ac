-- Coverage goes round a line of 160 pixels.
use Rattle.std.proofs.Common.{◌≡◌, ℕ, ◌+◌, ◌-◌, ◌*◌, ◌%◌, ◌<◌, Bool, List, [], ◌∷◌, refl}
use Rattle.std.proofs.Common.{sym, ◌∙◌, arith, pos, ◌-ℤ◌}
use Rattle.std.specs.List.{list_any}
use Rattle.std.proofs.lemmas.Int.{ints}
use Rattle.tia_core.specs.Coverage.{distance_of}
use Rattle.tia_core.proofs.LinePlaces.{modulo_160-is}

-- the distance as a remainder of natural numbers, with so many lines added that nothing is below 0
pub distance_of-natural : (x position copy : ℕ) → position < 160 → distance_of x position copy ≡ (x + (copy + 1) * 160 - position - copy) % 160
distance_of-natural x position copy h =
    modulo_160-is (pos x -ℤ pos position -ℤ pos copy) (copy + 1) (x + (copy + 1) * 160 - position - copy) (omega (arith, ints))

pub distance_of-round : (x position copy k : ℕ) → x < 160 → position < 160
    → distance_of ((x + k) % 160) ((position + k) % 160) copy ≡ distance_of x position copy
distance_of-round x position copy k h p =
    distance_of-natural ((x + k) % 160) ((position + k) % 160) copy (omega arith)
    ∙ omega arith
    ∙ sym (distance_of-natural x position copy p)

pub list_any-same : (p q : ℕ → Bool) (xs : List ℕ) → ((x : ℕ) → p x ≡ q x) → list_any p xs ≡ list_any q xs
list_any-same p q [] h = refl
list_any-same p q (x ∷ xs) h = rw (h x, list_any-same p q xs h) refl

pub distance_of-inside : (x position copy : ℕ) → position < 160 → distance_of x position copy < 160
distance_of-inside x position copy h = omega (arith, distance_of-natural x position copy h)
