-- How many bytes a cartridge on a board has.
use Rattle.std.proofs.Common.{◌≡◌, ◌∙◌, ℕ, ◌≤◌, Bool, true, false, List, [], ◌∷◌, refl, ap}
use Rattle.std.specs.Prelude.{◌||◌, nat_eq, nat_le}
use Rattle.std.specs.List.{list_all, list_any}
use Rattle.std.proofs.lemmas.Bool.{and_parts, eqb-true, leb-true}
use Rattle.cart_board.specs.Board.{Row, has_length}
use Rattle.cart_board.specs.Boards.{IsBoard}
use Rattle.cart_board.proofs.RowLemmas.{of_boards}

abbrev is_few : ℕ → Bool
is_few bytes = nat_le bytes 524288

abbrev has_few : Row → Bool
has_few row = list_all is_few row.lengths

few_of : (lengths : List ℕ) (bytes : ℕ) → list_all is_few lengths ≡ true → list_any (nat_eq bytes) lengths ≡ true → is_few bytes ≡ true
few_of [] bytes all is = cc
few_of (n ∷ lengths) bytes all is = step (λ rest. few_of lengths bytes (and_parts (is_few n) (list_all is_few lengths) all).1 rest) (nat_eq bytes n) refl is
  where
    step : (list_any (nat_eq bytes) lengths ≡ true → is_few bytes ≡ true) → (b : Bool) → nat_eq bytes n ≡ b → (b || list_any (nat_eq bytes) lengths) ≡ true
        → is_few bytes ≡ true
    step later true e _ = ap is_few (eqb-true bytes n e) ∙ (and_parts (is_few n) (list_all is_few lengths) all).0
    step later false e rest = later rest

pub few_bytes : (row : Row) (bytes : ℕ) → IsBoard row → has_length row bytes ≡ true → bytes ≤ 524288
few_bytes row bytes is size = leb-true bytes 524288 (few_of row.lengths bytes (of_boards has_few refl row is) size)
