-- Boards in headers: a code tells its board.
use Rattle.std.proofs.Common.{◌≡◌, ◌∙◌, ℕ, zero, suc, ◌≤◌, Bool, true, false, List, [], ◌∷◌, Some, refl, sym, ap, arith}
use Rattle.std.specs.Prelude.{◌==◌, find, if◌then◌else◌, nat_le, slice_get}
use Rattle.std.proofs.lemmas.Bool.{and_parts, cond-true, cond-false, eq-eqb, eqb-true, leb-true, ne_eqb}
use Rattle.cart_board.specs.Board.{Row}
use Rattle.cart_board.specs.Boards.{boards, IsBoard}
use Rattle.cart_board.specs.Record.{record_length}
use Rattle.cart_board.proofs.RowLemmas.{code_at, codes_from, found_board, of_boards}
use Rattle.movie_file.specs.Format.{board_of_code}

-- what is found passes the test
found_test : (p : Row → Bool) (rows : List Row) (row : Row) → find p rows ≡ Some row → p row ≡ true
found_test p [] row is = absurd cc
found_test p (r ∷ rows) row is = step (found_test p rows row) (p r) refl is
  where
    step : (find p rows ≡ Some row → p row ≡ true) → (b : Bool) → p r ≡ b → (if b then Some r else find p rows) ≡ Some row → p row ≡ true
    step later true e is = let same : r ≡ row = cc in ap p (sym same) ∙ e
    step later false e is = later is

-- a row whose code is its place is the first with its code
first_at : (n : ℕ) (rows : List Row) (place : ℕ) (row : Row) → codes_from n rows ≡ true → slice_get rows place ≡ Some row
    → find (λ r. r.code == row.code) rows ≡ Some row
first_at n [] place row all is = absurd cc
first_at n (r ∷ rows) zero row all is =
    let same : r ≡ row = cc in
    cond-true _ _ _ (eq-eqb r.code row.code (ap (λ (x : Row). x.code) same)) ∙ ap (λ (x : Row). Some x) same
first_at n (r ∷ rows) (suc place) row all is =
    let parts = and_parts (r.code == n) (codes_from (suc n) rows) all in
    let first = eqb-true r.code n parts.0 in
    let code = code_at (suc n) rows place row parts.1 is in
    cond-false _ _ _ (ne_eqb r.code row.code (λ same. absurd (omega (arith, first, code, same)))) ∙ first_at (suc n) rows place row parts.1 is

-- the board of a code is one of the table, and has the code
pub board_found : (code : ℕ) (row : Row) → board_of_code code ≡ Some row → IsBoard row × (row.code ≡ code)
board_found code row is =
    (found_board (λ r. r.code == code) row is, eqb-true row.code code (found_test (λ r. r.code == code) boards row is))

-- and the code of a board tells it
pub board_again : (row : Row) → IsBoard row → board_of_code row.code ≡ Some row
board_again row is = first_at 0 boards row.code row refl is

-- a board adds few bytes to a record
pub few_added : (row : Row) → IsBoard row → record_length row ≤ 2050
few_added row is = leb-true (record_length row) 2050 (of_boards (λ (row : Row). nat_le (record_length row) 2050) refl row is)
