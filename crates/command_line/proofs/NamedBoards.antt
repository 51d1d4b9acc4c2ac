-- A board by its code, which is its place in the table.
use Rattle.std.proofs.Common.{◌≡◌, ◌∙◌, ℕ, ◌+◌, ◌<◌, ap, arith, get_or, length, map, option_map, refl, sym, Some, List}
use Rattle.std.specs.Prelude.{slice_get}
use Rattle.std.proofs.lemmas.List.{length-map}
use Rattle.std.proofs.lemmas.Option.{slice_get-get_or, slice_get-map, slice_get_within}
use Rattle.cart_board.specs.Board.{Row, row_of}
use Rattle.cart_board.specs.Boards.{boards, IsBoard}
use Rattle.cart_board.specs.declared.board.Board.{Board}
use Rattle.cart_board.proofs.RowLemmas.{code_at}

-- the code of a board is one of the table
pub code_within : (row : Row) → IsBoard row → row.code < length boards
code_within row is = slice_get_within boards row.code row is

-- there are as many boards as rows
as_many : (all : List Board) → map row_of all ≡ boards → length all ≡ length boards
as_many all are = sym (length-map all row_of) ∙ ap length are

-- the row at a code is that of the board there
pub row_there : (all : List Board) (code : ℕ) (d : Board) → map row_of all ≡ boards → code < length boards
    → slice_get boards code ≡ Some (row_of (get_or all code d))
row_there all code d are within =
    let less : code < length all = (let same = as_many all are in omega arith) in
    ap (λ (l : List Row). slice_get l code) (sym are) ∙ slice_get-map row_of all code ∙ ap (option_map row_of) (slice_get-get_or all code d less)

-- and it is a board of the table
pub board_there : (code : ℕ) (row : Row) → slice_get boards code ≡ Some row → IsBoard row
board_there code row there =
    let place : row.code ≡ 0 + code = code_at 0 boards code row refl there in
    let same : row.code ≡ code = omega arith in
    ap (slice_get boards) same ∙ there
