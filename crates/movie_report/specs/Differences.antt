-- The numbers in which two state records differ. This project's own.
use Rattle.std.specs.Prelude.{ℕ, Bool, not, List, [], ◌∷◌, ◌++◌, codes, count_by, take, drop, Option, if◌then◌else◌}
use Rattle.std.specs.List.{flat_map}
use Rattle.std.specs.Str.{bytes_eq}
use Rattle.cart_board.specs.Board.{Row}
use Rattle.hex.specs.Hex.{encode_upper}
use Rattle.movie_report.specs.Numbers.{NumberData, state_names}
use Rattle.movie_report.specs.declared.differences.Comparison.{Comparison}
use Rattle.movie_report.specs.declared.differences.Comparison.TheVariants.{Start, Claim}
use Rattle.replay_plan.specs.declared.notation.Notation.{Notation}
use Rattle.replay_plan.specs.declared.notation.Notation.TheVariants.{Lines, Json}

-- A number of two records: its name, and its bytes in each.
pub record Pair : Type 0 where
  pub name : List ℕ
  pub first : List ℕ
  pub second : List ℕ

-- Two records cut into their numbers.
abbrev pub number_pairs : List NumberData → List ℕ → List ℕ → List Pair
number_pairs [] a b = []
number_pairs (n ∷ ns) a b =
    record { name = n.name; first = take n.length a; second = take n.length b } ∷ number_pairs ns (drop n.length a) (drop n.length b)

-- What is said of a number that differs: a line, or an element of an array after those before it.
abbrev pub difference_text : Notation → Comparison → Pair → List ℕ
difference_text Lines Start pair =
    codes "start " ++ (pair.name ++ (codes ": " ++ (encode_upper pair.first ++ (codes ", at power-on " ++ (encode_upper pair.second ++ 10 ∷ [])))))
difference_text Lines Claim pair =
    pair.name ++ (codes ": claimed " ++ (encode_upper pair.first ++ (codes ", found " ++ (encode_upper pair.second ++ 10 ∷ []))))
difference_text Json Start pair =
    codes ",{\"number\":\"" ++ (pair.name ++ (codes "\",\"start\":\"" ++ (encode_upper pair.first
    ++ (codes "\",\"power_on\":\"" ++ (encode_upper pair.second ++ codes "\"}")))))
difference_text Json Claim pair =
    codes ",{\"number\":\"" ++ (pair.name ++ (codes "\",\"claimed\":\"" ++ (encode_upper pair.first
    ++ (codes "\",\"found\":\"" ++ (encode_upper pair.second ++ codes "\"}")))))

abbrev pub is_different : Pair → Bool
is_different pair = not (bytes_eq pair.first pair.second)

-- In how many numbers two records differ, by the board of their cartridge.
unfoldable pub difference_count : Option Row → List ℕ → List ℕ → ℕ
difference_count board a b = count_by is_different (number_pairs (state_names board) a b)

-- If its bytes are the same, nothing.
abbrev pub text_if_different : Notation → Comparison → Pair → List ℕ
text_if_different notation comparison pair = if bytes_eq pair.first pair.second then [] else difference_text notation comparison pair

-- What is said of the numbers of two records, in the record's order.
unfoldable pub pairs_text : Notation → Comparison → Option Row → List ℕ → List ℕ → List ℕ
pairs_text notation comparison board a b = flat_map (text_if_different notation comparison) (number_pairs (state_names board) a b)

-- The name of the array.
abbrev pub array_name : Comparison → List ℕ
array_name Start = codes "start_differs"
array_name Claim = codes "differs"

-- The lines, or the array, in which no comma stands before the first element.
abbrev pub differences_text : Notation → Comparison → Option Row → List ℕ → List ℕ → List ℕ
differences_text Lines comparison board a b = pairs_text Lines comparison board a b
differences_text Json comparison board a b =
    codes ",\"" ++ (array_name comparison ++ (codes "\":[" ++ (drop 1 (pairs_text Json comparison board a b) ++ codes "]")))
