-- The numbers of two records from a place on.
use Rattle.std.proofs.Common.{◌≡◌, ℕ, ◌+◌, ◌<◌, List, [], ◌∷◌, ◌++◌, length, refl, ap}
use Rattle.std.proofs.Common.{add-one, take, drop, append_assoc, append-nil, drop-drop}
use Rattle.std.proofs.Common.{inl, inr}
use Rattle.std.specs.Prelude.{Bool, true, false, cond, count_by, not, Option, if◌then◌else◌}
use Rattle.std.specs.Str.{bytes_eq}
use Rattle.std.specs.List.{flat_map}
use Rattle.std.proofs.lemmas.List.Sums.{sum_by-cons}
use Rattle.std.proofs.Math.Seq.{drop-cons, drop-length}
use Rattle.cart_board.specs.Board.{Row}
use Rattle.movie_report.specs.Differences.{Pair, number_pairs, text_if_different, pairs_text}
use Rattle.movie_report.specs.Differences.{difference_count, difference_text, is_different}
use Rattle.movie_report.specs.Numbers.{bytes_in, state_names}
use Rattle.movie_report.specs.Private.Places.{state_number_at, no_place}
use Rattle.movie_report.specs.declared.differences.Comparison.{Comparison}
use Rattle.movie_report.specs.declared.differences.Comparison.TheVariants.{Start, Claim}
use Rattle.replay_plan.specs.declared.notation.Notation.{Notation}
use Rattle.replay_plan.specs.declared.notation.Notation.TheVariants.{Json}
use Rattle.movie_report.specs.Private.Elements.{AreElements}

-- What is said of the numbers from a place on, whose bytes begin here, and how many bytes they have.
pub rest_text : Notation → Comparison → Option Row → List ℕ → List ℕ → ℕ → ℕ → List ℕ
rest_text notation comparison board a b place at =
    flat_map (text_if_different notation comparison) (number_pairs (drop place (state_names board)) (drop at a) (drop at b))

pub bytes_from : Option Row → ℕ → ℕ
bytes_from board place = bytes_in (drop place (state_names board))

pub next_number : (board : Option Row) (place : ℕ) → place < length (state_names board)
    → drop place (state_names board) ≡ state_number_at board place ∷ drop (place + 1) (state_names board)
unfolding state_number_at
next_number board place low = rw add-one (drop-cons (state_names board) place no_place low)

pub bytes_from-next : (board : Option Row) (place : ℕ) → place < length (state_names board)
    → bytes_from board place ≡ (state_number_at board place).length + bytes_from board (place + 1)
unfolding bytes_from
bytes_from-next board place low = ap bytes_in (next_number board place low)

pub bytes_from-start : (board : Option Row) → bytes_from board 0 ≡ bytes_in (state_names board)
unfolding bytes_from
bytes_from-start board = refl

pub rest_text-next : (notation : Notation) (comparison : Comparison) (board : Option Row) (a b : List ℕ) (place at : ℕ) → place < length (state_names board)
    → rest_text notation comparison board a b place at ≡ text_if_different notation comparison (record {
      name = (state_number_at board place).name;
      first = take (state_number_at board place).length (drop at a);
      second = take (state_number_at board place).length (drop at b);
    }) ++ rest_text notation comparison board a b (place + 1) (at + (state_number_at board place).length)
unfolding rest_text
rest_text-next notation comparison board a b place at low = rw (next_number board place low) (simp drop-drop)

pub rest_text-start : (notation : Notation) (comparison : Comparison) (board : Option Row) (a b : List ℕ)
    → rest_text notation comparison board a b 0 0 ≡ pairs_text notation comparison board a b
unfolding rest_text pairs_text
rest_text-start notation comparison board a b = refl

pub rest_text-end : (notation : Notation) (comparison : Comparison) (board : Option Row) (a b : List ℕ) (place at : ℕ) → place ≡ length (state_names board)
    → rest_text notation comparison board a b place at ≡ []
unfolding rest_text
rest_text-end notation comparison board a b place at e = rw (e, drop-length) refl

-- In how many of those numbers they differ.
pub rest_count : Option Row → List ℕ → List ℕ → ℕ → ℕ → ℕ
rest_count board a b place at = count_by is_different (number_pairs (drop place (state_names board)) (drop at a) (drop at b))

by_bit : (same : Bool) → ◌≡◌ {A = ℕ} (cond (not same) 1 0) (if same then 0 else 1)
by_bit true = refl
by_bit false = refl

count-cons : (pair : Pair) (pairs : List Pair)
    → count_by is_different (pair ∷ pairs) ≡ (if bytes_eq pair.first pair.second then 0 else 1) + count_by is_different pairs
count-cons pair pairs = rw sum_by-cons (ap (λ (n : ℕ). n + count_by is_different pairs) (by_bit (bytes_eq pair.first pair.second)))

pub rest_count-next : (board : Option Row) (a b : List ℕ) (place at : ℕ) → place < length (state_names board)
    → rest_count board a b place at
    ≡ (if bytes_eq (take (state_number_at board place).length (drop at a)) (take (state_number_at board place).length (drop at b)) then 0 else 1)
    + rest_count board a b (place + 1) (at + (state_number_at board place).length)
unfolding rest_count
rest_count-next board a b place at low = rw (next_number board place low, count-cons) (simp drop-drop)

pub rest_count-start : (board : Option Row) (a b : List ℕ) → rest_count board a b 0 0 ≡ difference_count board a b
unfolding rest_count difference_count
rest_count-start board a b = refl

pub rest_count-end : (board : Option Row) (a b : List ℕ) (place at : ℕ) → place ≡ length (state_names board) → rest_count board a b place at ≡ 0
unfolding rest_count
rest_count-end board a b place at e = rw (e, drop-length) refl

-- A text, or a count, number by number.
pub ruleset number_by_number = (rest_count-next, rest_count-start, rest_count-end, bytes_from-next, bytes_from-start, rest_text-next, rest_text-start, rest_text-end, append-nil, append_assoc)

-- The elements of an array.
AreElements-more : (comparison : Comparison) (pair : Pair) (same : Bool) (rest : List ℕ) → AreElements rest
    → AreElements ((if same then [] else difference_text Json comparison pair) ++ rest)
AreElements-more _ pair true rest is = is
AreElements-more Start pair false rest is = inr (_, refl)
AreElements-more Claim pair false rest is = inr (_, refl)

AreElements-pairs : (comparison : Comparison) (pairs : List Pair) → AreElements (flat_map (text_if_different Json comparison) pairs)
AreElements-pairs comparison [] = inl refl
AreElements-pairs comparison (pair ∷ pairs) = AreElements-more comparison pair (bytes_eq pair.first pair.second) _ (AreElements-pairs comparison pairs)

pub AreElements-pairs_text : (comparison : Comparison) (board : Option Row) (a b : List ℕ) → AreElements (pairs_text Json comparison board a b)
unfolding pairs_text
AreElements-pairs_text comparison board a b = AreElements-pairs comparison (number_pairs (state_names board) a b)
