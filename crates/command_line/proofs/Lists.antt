-- What holds of each element of a list, and so of what is found in it.
use Rattle.std.proofs.Common.{◌≡◌, ◌++◌, Bool, true, false, List, [], ◌∷◌, Some, ap, if◌then◌else◌, map, refl, subst}
use Rattle.std.specs.List.{list_any}
use Rattle.std.specs.Prelude.{◌||◌}
use Rattle.std.specs.Prelude.{find}

abbrev pub Each : {X : Type 0} → (X → Type 0) → List X → Type 0
Each P [] = Unit {0}
Each P (x ∷ xs) = P x × Each P xs

pub both : {X : Type 0} (P : X → Type 0) (xs ys : List X) → Each P xs → Each P ys → Each P (xs ++ ys)
both P [] ys a b = b
both P (x ∷ xs) ys a b = (a.0, both P xs ys a.1 b)

-- What is found is one of the elements, and passes the test.
pub found : {X : Type 0} (P : X → Type 0) (p : X → Bool) (xs : List X) (x : X) → Each P xs → find p xs ≡ Some x → P x × (p x ≡ true)
found P p [] x each is = cc
found P p (y ∷ ys) x each is = go (p y) refl (λ later. found P p ys x each.1 later) is
  where
    go : (b : Bool) → p y ≡ b → (find p ys ≡ Some x → P x × (p x ≡ true)) → (if b then Some y else find p ys) ≡ Some x → P x × (p x ≡ true)
    go true e more here =
        let same : y ≡ x = cc in
        subst (λ z. P z × (p z ≡ true)) same (each.0, e)
    go false e more later = more later

-- Some element passes a test of what it stands for.
pub any_mapped : {X Y : Type 0} (f : X → Y) (p : Y → Bool) (xs : List X) → list_any (λ x. p (f x)) xs ≡ list_any p (map f xs)
any_mapped f p [] = refl
any_mapped f p (x ∷ xs) = ap (λ b. p (f x) || b) (any_mapped f p xs)
