-- Elements of lists by their places.
use Rattle.std.proofs.Common.{◌≡◌, ◌≢◌, ℕ, ◌+◌, ◌<◌, List, length, Some, slice_get, slice_set}
use Rattle.std.proofs.Common.{length-set, All, arith, ap, ◌∙◌, subst, sym, inl, inr}
use Rattle.std.proofs.lemmas.Bool.{cases_lt}
use Rattle.std.proofs.lemmas.List.{get_or-set_other}
use Rattle.std.proofs.lemmas.Option.{slice_get_cases, slice_get_within, get_or_from_slice_get}
use Rattle.std.proofs.lemmas.Option.{slice_get-get_or}

-- There is one at each place below the length.
pub slice_get-below : {X : Type 0} (xs : List X) (i : ℕ) → i < length xs → (x : X) × (slice_get xs i ≡ Some x)
slice_get-below xs i less =
    elim (slice_get_cases xs i).1 [ inl w ↦ (w.0, w.2) | inr w ↦ absurd (let h = w.0 in omega arith) ]

-- Two reads at one place are of one value.
pub same_at : {X : Type 0} (xs : List X) (i n : ℕ) (p q : X) → i ≡ n → slice_get xs i ≡ Some p → slice_get xs n ≡ Some q → p ≡ q
same_at xs i n p q is one two = let both : Some p ≡ Some q = sym one ∙ (ap (λ (k : ℕ). slice_get xs k) is ∙ two) in cc

-- What holds of the first n and of the next holds of the first n + 1.
pub each-below : {X : Type 0} (P : X → Type 0) (xs : List X) (n : ℕ) (q : X) → slice_get xs n ≡ Some q → P q
    → ((k : ℕ) (p : X) → k < n → slice_get xs k ≡ Some p → P p) → (k : ℕ) (p : X) → k < n + 1 → slice_get xs k ≡ Some p → P p
each-below P xs n q at here below k p less there =
    elim (cases_lt k n) [ inl low ↦ below k p low there | inr high ↦ subst P (sym (same_at xs k n p q (omega arith) there at)) here ]

-- What holds of all holds of the one at a place.
pub All-at : {X : Type 0} (P : X → Type 0) (xs : List X) (i : ℕ) (x : X) → slice_get xs i ≡ Some x → All P xs → P x
All-at P xs i x at all = subst P (get_or_from_slice_get xs i x x at) (all i x (slice_get_within xs i x at))

-- An element at another place stays.
pub slice_get-set_other : {X : Type 0} (xs : List X) (i j : ℕ) (x y : X) → j ≢ i → slice_get xs j ≡ Some y → slice_get (slice_set xs i x) j ≡ Some y
slice_get-set_other xs i j x y other at =
    let within = slice_get_within xs j y at in
    let len : length (slice_set xs i x) ≡ length xs = length-set xs i x in
    let low : j < length (slice_set xs i x) = omega arith in
    slice_get-get_or (slice_set xs i x) j y low ∙ ap (λ (z : _). Some z) (get_or-set_other xs i j x y other ∙ get_or_from_slice_get xs j y y at)
