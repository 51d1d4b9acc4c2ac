-- The first of some names that is near to a word.
use Rattle.std.proofs.Common.{◌≡◌, ◌∙◌, ℕ, ◌-◌, ◌≤◌, List, [], ◌∷◌, Option, Some, None, Bor, ap, arith, drop, get_or, length, refl, subst, sym, take}
use Rattle.std.specs.List.{AllByRecursion}
use Rattle.input_text.specs.Mistakes.{IsMeantAmong, IsNearTo}
use Rattle.input_text.specs.Names.{bit_of_name}
use Rattle.input_text.specs.declared.name.Name.{Name}
use Rattle.input_text.proofs.LineLemmas.{rest_from}

module _ (word : List ℕ) where
  pub meant_first : (all : List Name) (d : Name) (text : Bor (List ℕ)) → 1 ≤ length all → IsNearTo word (get_or all 0 d)
      → text.now ≡ (bit_of_name (get_or all 0 d)).word → IsMeantAmong word all (Some text)
  meant_first [] d text some near is = absurd (omega arith)
  meant_first (name ∷ all) d text some near is = ([], all, name, refl, tt, near, is)

  pub meant_later : (all : List Name) (d : Name) (r : Option (Bor (List ℕ))) → 1 ≤ length all → (IsNearTo word (get_or all 0 d) → ⊥)
      → IsMeantAmong word (take (length all - 1) (drop 1 all)) r → IsMeantAmong word all r
  meant_later [] d r some far more = absurd (omega arith)
  meant_later (name ∷ all) d None some far more =
      (far, subst (AllByRecursion (λ name. IsNearTo word name → ⊥)) (rest_from (name ∷ all) 1) more)
  meant_later (name ∷ all) d (Some text) some far (before, after, it, is, none, near, word_is) =
      (name ∷ before, after, it, ap (λ (l : List Name). name ∷ l) (sym (rest_from (name ∷ all) 1) ∙ is), (far, none), near, word_is)
