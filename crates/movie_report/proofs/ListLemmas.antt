-- Lists from an index on.
use Rattle.std.proofs.Common.{◌≡◌, ℕ, ◌+◌, ◌-◌, List, ◌∷◌, refl, arith}
use Rattle.std.proofs.Common.{Some, slice_get, drop, add-one, drop-cons}
use Rattle.std.proofs.Math.Seq.{drop-length}
use Rattle.std.proofs.lemmas.Option.{slice_get_within, get_or_from_slice_get}

-- The next element, which code numbers from 1.
pub drop_at : {A : Type 0} (xs : List A) (i : ℕ) (x : A) → slice_get xs (i + 1 - 1) ≡ Some x → drop i xs ≡ x ∷ drop (i + 1) xs
drop_at xs i x here =
    let same : i + 1 - 1 ≡ i = omega arith in
    let at = rw same at here in
    rw (drop-cons xs i x (slice_get_within xs i x at), get_or_from_slice_get xs i x x at, add-one) refl

-- What is left of a list before the next element, and after the last.
pub ruleset what_is_left = (drop_at, drop-length)
