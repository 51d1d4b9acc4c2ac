-- How lengths are told, one after another.
use Rattle.std.proofs.Common.{◌≡◌, ℕ, zero, suc, ◌+◌, ◌<◌, ◌≤◌, List, [], ◌∷◌, ◌++◌, append-nil, add-one, codes, drop, get_or, length, length-drop, drop-cons, refl, arith}
use Rattle.std.proofs.lemmas.List.{drop_all}
use Rattle.std.specs.Fmt.{decimal}
use Rattle.movie_hints.specs.HintTexts.{lengths_text, more_lengths}

-- what is left to write of lengths, from the one at this place on
abbrev pub left_text : ℕ → List ℕ → List ℕ
left_text zero ns = lengths_text ns
left_text (suc i) ns = more_lengths (drop (suc i) ns)

-- a length after others
more-next : (n : ℕ) (ns before : List ℕ) → (0 < length ns → before ≡ codes ", ") → (length ns ≡ 0 → before ≡ codes " or ")
    → more_lengths (n ∷ ns) ≡ before ++ (decimal n ++ more_lengths ns)
more-next n [] before others last = rw (last refl, append-nil) refl
more-next n (m ∷ ns) before others last = rw (others (omega arith)) refl

-- the next length
pub left_text-next : (ns : List ℕ) (i : ℕ) (before : List ℕ) → i < length ns → (i ≡ 0 → before ≡ [])
    → (0 < i → i + 1 < length ns → before ≡ codes ", ") → (0 < i → length ns ≤ i + 1 → before ≡ codes " or ")
    → left_text i ns ≡ before ++ (decimal (get_or ns i 0) ++ left_text (i + 1) ns)
left_text-next [] i before within none others last = absurd (omega arith)
left_text-next (n ∷ ns) zero before within none others last = rw (none refl) refl
left_text-next (n ∷ ns) (suc i) before within none others last =
    let here : i < length ns = omega arith in
    let rest : length (drop (suc i) ns) + suc i ≡ length ns = omega (arith, length-drop (suc i) ns) in
    rw (add-one, drop-cons ns i 0)
    (more-next (get_or ns i 0) (drop (suc i) ns) before (λ some. others (omega arith) (omega (arith, rest))) (λ end. last (omega arith) (omega (arith, rest))))

-- nothing is left after the last
pub left_text-end : (ns : List ℕ) (i : ℕ) → length ns ≤ i → left_text i ns ≡ []
left_text-end [] zero all = refl
left_text-end [] (suc i) all = refl
left_text-end (n ∷ ns) zero all = absurd (omega arith)
left_text-end (n ∷ ns) (suc i) all = rw (drop_all i ns (omega arith)) refl
