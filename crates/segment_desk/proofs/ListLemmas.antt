-- Places in a list, sums over a list that changes at one place, and how often a number stands in a
-- list.
use Rattle.std.proofs.Common.{◌≡◌, ℕ, zero, suc, ◌+◌, ◌≤◌, ◌≢◌, List, [], ◌∷◌, ◌++◌, set, refl, sym}
use Rattle.std.proofs.Common.{ap, arith, Some, slice_get, sum_by, cond, ◌==◌, eq-eqb, ne_eqb}
use mathlib.Core.Logic.{dite}
use mathlib.Core.Option.{some, some-injective, some-ne-none}
use native.Mathlib.Decide.{ℕ_discrete}
use lib.ListN.{get_elem?}
use Rattle.std.proofs.lemmas.List.Sums.{sum_by-append, sum_by-cons}
use Rattle.segment_desk.specs.Desk.{times}

module _ {A : Type 0} where
  -- A place in the word of the table's rule, and in that of the desk.
  pub slice_get-of_some : (l : List A) (j : ℕ) (v : A) → get_elem? l j ≡ some v → slice_get l j ≡ Some v
  slice_get-of_some [] j v e = absurd (some-ne-none v (sym e))
  slice_get-of_some (x ∷ xs) zero v e = ap Some (some-injective x v e)
  slice_get-of_some (x ∷ xs) (suc j) v e = slice_get-of_some xs j v e

  pub some-of_slice_get : (l : List A) (j : ℕ) (v : A) → slice_get l j ≡ Some v → get_elem? l j ≡ some v
  some-of_slice_get [] j v e = absurd cc
  some-of_slice_get (x ∷ xs) zero v e = let is : x ≡ v = cc in ap some is
  some-of_slice_get (x ∷ xs) (suc j) v e = some-of_slice_get xs j v e

module _ {A : Type 0} (g : A → ℕ) where
  pub sum_by-set-at : (l : List A) (j : ℕ) (v w : A) → get_elem? l j ≡ some v → sum_by g (set l j w) + g v ≡ sum_by g l + g w
  sum_by-set-at [] j v w e = absurd (some-ne-none v (sym e))
  sum_by-set-at (x ∷ xs) zero v w e = omega (arith, ap g (some-injective x v e), sum_by-cons g w xs, sum_by-cons g x xs)
  sum_by-set-at (x ∷ xs) (suc j) v w e = omega (arith, sum_by-set-at xs j v w e, sum_by-cons g x (set xs j w), sum_by-cons g x xs)

  pub term_le : (l : List A) (j : ℕ) (v : A) → get_elem? l j ≡ some v → g v ≤ sum_by g l
  term_le [] j v e = absurd (some-ne-none v (sym e))
  term_le (x ∷ xs) zero v e = omega (arith, ap g (some-injective x v e), sum_by-cons g x xs)
  term_le (x ∷ xs) (suc j) v e = omega (arith, term_le xs j v e, sum_by-cons g x xs)

  module _ (f : A → ℕ) where
    pub sum_by-le-each : (l : List A) → ((a : A) → f a ≤ g a) → sum_by f l ≤ sum_by g l
    sum_by-le-each [] h = omega arith
    sum_by-le-each (x ∷ xs) h = omega (arith, h x, sum_by-le-each xs h, sum_by-cons f x xs, sum_by-cons g x xs)

    -- where no weight g is left, and each without that weight has no weight f, no weight f is left
    none_left : (l : List A) → ((j : ℕ) (a : A) → get_elem? l j ≡ some a → g a ≡ 0 → f a ≡ 0) → sum_by g l ≡ 0 → sum_by f l ≡ 0
    none_left [] h e = refl
    none_left (x ∷ xs) h e = let left = sum_by-cons g x xs in
        omega (arith, h zero x refl (omega arith), none_left xs (λ j. h (suc j)) (omega arith), sum_by-cons f x xs)

    -- one that has all of the weight g has all of the weight f
    pub alone : (l : List A) (j : ℕ) (v : A) → get_elem? l j ≡ some v
        → ((i : ℕ) (a : A) → get_elem? l i ≡ some a → g a ≡ 0 → f a ≡ 0) → sum_by g l ≡ g v
        → sum_by f l ≡ f v
    alone [] j v e h is = absurd (some-ne-none v (sym e))
    alone (x ∷ xs) zero v e h is = let same = some-injective x v e in let left = sum_by-cons g x xs in
        let r : sum_by f xs ≡ 0 = none_left xs (λ i. h (suc i)) (omega (arith, ap g same)) in omega (arith, ap f same, sum_by-cons f x xs)
    alone (x ∷ xs) (suc j) v e h is = let part = term_le xs j v e in let left = sum_by-cons g x xs in
        let zero_here : f x ≡ 0 = h zero x refl (omega arith) in omega (arith, alone xs j v e (λ i. h (suc i)) (omega arith), sum_by-cons f x xs)

-- How often a number stands in two lists, one behind the other.
pub times-append : (k : ℕ) (l m : List ℕ) → times k (l ++ m) ≡ times k l + times k m
times-append k = sum_by-append (λ x. cond (x == k) 1 0)

pub times-same : (k j : ℕ) → j ≡ k → times k (j ∷ []) ≡ 1
times-same k j e = ap (λ b. 0 + cond b 1 0) (eq-eqb j k e)

pub times-other : (k j : ℕ) → j ≢ k → times k (j ∷ []) ≡ 0
times-other k j ne = ap (λ b. 0 + cond b 1 0) (ne_eqb j k ne)

-- With j behind a list, j stands in it once more, and each other number as often as before.
pub times-snoc : {A : Type 0} (k j : ℕ) (l : List ℕ) → (k ≡ j → times k (l ++ j ∷ []) ≡ times k l + 1 → A)
    → (k ≢ j → times k (l ++ j ∷ []) ≡ times k l → A) → A
times-snoc k j l same other = dite (ℕ_discrete k j)
    (λ e. same e (let one = times-same k j (sym e) in omega (arith, times-append k l (j ∷ []))))
    (λ ne. other ne (let none_more = times-other k j (λ e. ne (sym e)) in omega (arith, times-append k l (j ∷ []))))
