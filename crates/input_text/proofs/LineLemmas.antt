-- Lines and words, from where they end.
use Rattle.std.proofs.Common.{◌≡◌, ℕ, ◌+◌, ◌-◌, ◌<◌, suc, Bool, true, false, cond, List, [], ◌∷◌, length}
use Rattle.std.proofs.Common.{take, drop, Option, refl, ap, ◌∙◌, sym, arith, tests}
use Rattle.std.proofs.Common.{◌≤◌}
use Rattle.std.specs.Prelude.{not, ◌&&◌, filter, nat_eq, unwrap_or}
use Rattle.std.specs.List.{position, position_or_len, slice_split, onto_first}
use Rattle.std.proofs.lemmas.Bool.{and_parts}
use Rattle.std.proofs.lemmas.List.{length-drop}
use Rattle.std.proofs.lemmas.List.Sums.{prefix_len-le-length}
use Rattle.std.proofs.Math.Seq.{take-length}
use Rattle.input_text.specs.Words.{is_blank, words_in}

-- `&xs[n..]`
pub rest_from : {X : Type 0} (xs : List X) (n : ℕ) → take (length xs - n) (drop n xs) ≡ drop n xs
rest_from xs n = ap (λ (k : ℕ). take k (drop n xs)) (sym (length-drop n xs)) ∙ take-length (drop n xs)

-- the parts after the first, from the element on that ends it
abbrev pub parts_after : (ℕ → Bool) → List ℕ → List (List ℕ)
parts_after p [] = []
parts_after p (x ∷ xs) = slice_split p xs

pub first_part : (p : ℕ → Bool) (xs : List ℕ)
    → slice_split p xs ≡ take (position_or_len p xs) xs ∷ parts_after p (drop (position_or_len p xs) xs)
first_part p [] = refl
first_part p (x ∷ xs) =
    let others = first_part p xs in
    let n : ℕ = position_or_len p xs in
    let more : 1 + n ≡ suc n = omega arith in
    elim (p x) as (λ v. cond v ([] ∷ slice_split p xs) (onto_first x (slice_split p xs))
    ≡ take (cond (not v) (1 + n) 0) (x ∷ xs) ∷ parts_after p (drop (cond (not v) (1 + n) 0) (x ∷ xs))) [
      | true ↦ refl
      | false ↦ rw more (ap (onto_first x) others)
    ]

abbrev pub is_part : List ℕ → Bool
is_part part = not (nat_eq (length part) 0)

parts_left : (bytes : List ℕ) → filter is_part (parts_after is_blank bytes) ≡ words_in (drop 1 bytes)
parts_left [] = refl
parts_left (b ∷ bytes) = refl

end_found : (p : ℕ → Bool) (xs : List ℕ) → unwrap_or (position p xs) (length xs) ≡ position_or_len p xs
end_found p xs = grind (arith, prefix_len-le-length)

-- a list, cut where a part ends
pub parts_at : (p : ℕ → Bool) (xs front back : List ℕ) (n : ℕ) (r : Option ℕ) → r ≡ position p xs → n ≡ unwrap_or r (length xs)
    → front ≡ take n xs → back ≡ drop n xs → slice_split p xs ≡ front ∷ parts_after p back
parts_at p xs front back n r found place f b = grind (arith, end_found, first_part)

pub last_part : (p : ℕ → Bool) (xs : List ℕ) → length xs < 1 → parts_after p xs ≡ []
last_part p [] h = refl
last_part p (x ∷ xs) h = absurd (omega arith)

pub parts_more : (p : ℕ → Bool) (xs : List ℕ) → 1 ≤ length xs → parts_after p xs ≡ slice_split p (take (length xs - 1) (drop 1 xs))
parts_more p [] h = absurd (omega arith)
parts_more p (x ∷ xs) h = ap (slice_split p) (sym (rest_from (x ∷ xs) 1))

-- where a list is cut, and what its parts are from there on
pub ruleset cut_parts = (parts_at, last_part, parts_more)

-- what stands before the first blank is a word, if it isn't empty
pub words_at : (bytes front back : List ℕ) (n : ℕ) (r : Option ℕ) → r ≡ position is_blank bytes → n ≡ unwrap_or r (length bytes)
    → front ≡ take n bytes → back ≡ drop n bytes
    → words_in bytes ≡ cond (is_part front) (front ∷ words_in (drop 1 back)) (words_in (drop 1 back))
words_at bytes front back n r found place f b =
    ap (filter is_part) (parts_at is_blank bytes front back n r found place f b) ∙ rw (parts_left back) refl

pub part_kept : (tests : Bool) (part : List ℕ) (parts : List (List ℕ)) → (tests && is_part part) ≡ true
    → filter is_part (part ∷ parts) ≡ part ∷ filter is_part parts
part_kept tests part parts e = rw (and_parts tests (is_part part) e).1 refl
