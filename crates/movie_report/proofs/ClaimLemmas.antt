-- The numbers of a claimed state, and claims, one after the other.
use Rattle.std.proofs.Common.{◌≡◌, ℕ, ◌+◌, ◌<◌, List, [], ◌∷◌, ◌++◌, refl, append-nil, append_assoc, length, take, drop, drop-drop, inl, inr, Option}
use Rattle.std.specs.List.{flat_map}
use Rattle.std.proofs.Math.Seq.{drop-length}
use Rattle.replay_plan.specs.declared.notation.Notation.{Notation}
use Rattle.replay_plan.specs.declared.notation.Notation.TheVariants.{Json}
use Rattle.cart_board.specs.Board.{Row}
use Rattle.movie_report.specs.Claims.{Value, value_text, values, values_text}
use Rattle.movie_report.specs.Numbers.{state_names}
use Rattle.movie_report.specs.Private.Elements.{AreElements}
use Rattle.movie_report.specs.Private.Places.{state_number_at}
use Rattle.movie_report.proofs.DifferenceLemmas.{bytes_from-next, bytes_from-start, next_number}
use Rattle.movie_report.proofs.ListLemmas.{drop_at}

-- The numbers from a place on, whose bytes begin here.
pub rest_text : Notation → Option Row → List ℕ → ℕ → ℕ → List ℕ
rest_text notation board a place at = flat_map (value_text notation) (values (drop place (state_names board)) (drop at a))

pub rest_text-next : (notation : Notation) (board : Option Row) (a : List ℕ) (place at : ℕ) → place < length (state_names board)
    → rest_text notation board a place at ≡ value_text notation (record {
      name = (state_number_at board place).name;
      bytes = take (state_number_at board place).length (drop at a);
    }) ++ rest_text notation board a (place + 1) (at + (state_number_at board place).length)
unfolding rest_text
rest_text-next notation board a place at low = rw (next_number board place low) (simp drop-drop)

pub rest_text-start : (notation : Notation) (board : Option Row) (a : List ℕ) → rest_text notation board a 0 0 ≡ values_text notation board a
unfolding rest_text values_text
rest_text-start notation board a = refl

pub rest_text-end : (notation : Notation) (board : Option Row) (a : List ℕ) (place at : ℕ) → place ≡ length (state_names board)
    → rest_text notation board a place at ≡ []
unfolding rest_text
rest_text-end notation board a place at e = rw (e, drop-length) refl

pub ruleset value_by_value = (bytes_from-next, bytes_from-start, rest_text-next, rest_text-start, rest_text-end, append-nil, append_assoc)

pub ruleset claim_by_claim = (drop_at, drop-length, append-nil, append_assoc)

-- Each member of an object stands after a comma.
AreElements-values : (values : List Value) → AreElements (flat_map (value_text Json) values)
AreElements-values [] = inl refl
AreElements-values (value ∷ more) = inr (_, refl)

pub AreElements-values_text : (board : Option Row) (a : List ℕ) → AreElements (values_text Json board a)
unfolding values_text
AreElements-values_text board a = AreElements-values (values (state_names board) a)
