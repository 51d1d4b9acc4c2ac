-- Signs that a worker has found.
use Rattle.std.proofs.Common.{◌≡◌, ℕ, ◌+◌, List, [], ◌∷◌, ◌++◌, Option, None, length, zero, suc, ap, ◌∙◌, sym, subst, replicate}
use Rattle.std.proofs.Common.{slice_get, slice_set, length-set, refl}
use Rattle.std.proofs.lemmas.List.{length-replicate}
use Rattle.std.specs.Prelude.{IfOk, IfSome, Result, Ok, Err}
use Rattle.std.specs.Result.{result_ok}
use Rattle.movie_file.specs.Movie.{MovieData}
use Rattle.movie_report.specs.Private.FoundSigns.{IsRow}
use Rattle.movie_report.specs.Segments.{HasSign}
use Rattle.movie_report.specs.declared.segments.Sign.{Sign}

-- What holds of the elements of a list holds of them where one is written of which it holds.
IfSome-set : {A : Type 0} (P : A → Type 0) (xs : List A) (i j : ℕ) (x : A) → (j ≡ i → P x) → IfSome (slice_get xs j) P
    → IfSome (slice_get (slice_set xs i x) j) P
IfSome-set P [] i j x here others = others
IfSome-set P (y ∷ ys) zero zero x here others = here refl
IfSome-set P (y ∷ ys) zero (suc j) x here others = others
IfSome-set P (y ∷ ys) (suc i) zero x here others = others
IfSome-set P (y ∷ ys) (suc i) (suc j) x here others = IfSome-set P ys i j x (λ e. here (ap suc e)) others

-- One more sign is found, or none.
pub row_with : (m : MovieData) (cuts : List ℕ) (from count place : ℕ) (sign : Option Sign) (found : List (Option Sign))
    → IfSome sign (HasSign m cuts (from + place)) → IsRow m cuts from count found → IsRow m cuts from count (slice_set found place sign)
row_with m cuts from count place sign found has row = (
  length-set found place sign ∙ row.0,
  λ j. IfSome-set (λ (s : Option Sign). IfSome s (HasSign m cuts (from + j))) found place j sign
      (λ e. subst (λ (k : ℕ). IfSome sign (HasSign m cuts (from + k))) (sym e) has) (row.1 j),
)

-- What holds of an answer, if there is one, holds of what is kept of it.
pub kept_if_ok : {A E : Type 0} (P : A → Type 0) (r : Result A E) → IfOk r P → IfSome (result_ok r) P
kept_if_ok P (Ok x) has = has
kept_if_ok P (Err e) has = tt

-- What holds of an element holds of all that are the same.
IfSome-same : {A : Type 0} (P : A → Type 0) (n i : ℕ) (x : A) → P x → IfSome (slice_get (replicate n x) i) P
IfSome-same P zero i x here = tt
IfSome-same P (suc n) zero x here = here
IfSome-same P (suc n) (suc i) x here = IfSome-same P n i x here

-- None is found yet.
pub blank_row : (m : MovieData) (cuts : List ℕ) (from count : ℕ) → IsRow m cuts from count (replicate count None)
blank_row m cuts from count =
    (length-replicate count None, λ i. IfSome-same (λ (s : Option Sign). IfSome s (HasSign m cuts (from + i))) count i None tt)

-- What holds of each element and its place, with one more at the end.
each_pushed : {A : Type 0} (P : ℕ → A → Type 0) (xs : List A) (x : A) → ((i : ℕ) → IfSome (slice_get xs i) (P i)) → P (length xs) x
    → (i : ℕ) → IfSome (slice_get (xs ++ x ∷ []) i) (P i)
each_pushed P [] x each here zero = here
each_pushed P [] x each here (suc i) = tt
each_pushed P (y ∷ ys) x each here zero = each zero
each_pushed P (y ∷ ys) x each here (suc i) = each_pushed (λ (k : ℕ) (a : _). P (suc k) a) ys x (λ k. each (suc k)) here i

-- The signs of so many segments, with that of the next.
pub one_sign_more : (m : MovieData) (cuts : List ℕ) (from : ℕ) (signs : List Sign) (sign : Sign)
    → ((i : ℕ) → IfSome (slice_get signs i) (HasSign m cuts (from + i))) → HasSign m cuts (from + length signs) sign
    → (i : ℕ) → IfSome (slice_get (signs ++ sign ∷ []) i) (HasSign m cuts (from + i))
one_sign_more m cuts from signs sign each next = each_pushed (λ (i : ℕ) (s : Sign). HasSign m cuts (from + i) s) signs sign each next
