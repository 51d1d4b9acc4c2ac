-- What is found among boards is found among their rows.
use Rattle.std.proofs.Common.{◌≡◌, ◌∙◌, ℕ, zero, suc, ◌+◌, Bool, true, false, if◌then◌else◌, List, [], ◌∷◌, Option, Some, None, map, option_map, refl, sym, ap, arith}
use Rattle.std.specs.Prelude.{◌&&◌, ◌==◌, find, IfSome, slice_get}
use Rattle.std.specs.Borrow.{Bor}
use Rattle.std.specs.List.{list_all, position_or_len}
use Rattle.std.proofs.lemmas.Bool.{and_parts, eqb-true}
use Rattle.std.proofs.lemmas.List.Folds.{find_at}
use Rattle.cart_board.specs.Board.{Row, row_of}
use Rattle.cart_board.specs.Boards.{boards, IsBoard}
use Rattle.cart_board.specs.declared.board.Board.{Board}

row_behind : (r : Option (Bor Board)) → option_map (λ board. row_of board.now) r ≡ option_map row_of (option_map (λ board. board.now) r)
row_behind None = refl
row_behind (Some board) = refl

find-map : (p : Row → Bool) (all : List Board) → option_map row_of (find (λ board. p (row_of board)) all) ≡ find p (map row_of all)
find-map p [] = refl
find-map p (board ∷ more) = elim (p (row_of board)) as (λ b. option_map row_of (if b then Some board else find (λ board. p (row_of board)) more)
    ≡ if b then Some (row_of board) else find p (map row_of more)) [
      | true ↦ refl
      | false ↦ find-map p more
    ]

-- the row that passes a test
pub row_found : (r : Option (Bor Board)) (all : List Board) (rows : List Row) (p : Row → Bool)
    → option_map (λ board. board.now) r ≡ find (λ board. p (row_of board)) all
    → map row_of all ≡ rows → option_map (λ board. row_of board.now) r ≡ find p rows
row_found r all rows p is same =
    row_behind r ∙ ap (option_map row_of) is ∙ find-map p all ∙ ap (find p) same

-- the codes of rows are their places, from a number on
abbrev pub codes_from : ℕ → List Row → Bool
codes_from n [] = true
codes_from n (row ∷ rows) = (row.code == n) && codes_from (suc n) rows

-- the code of a row is its place
pub code_at : (n : ℕ) (rows : List Row) (place : ℕ) (row : Row) → codes_from n rows ≡ true → slice_get rows place ≡ Some row → row.code ≡ n + place
code_at n [] place row all is = absurd cc
code_at n (r ∷ rows) zero row all is =
    let same : r ≡ row = cc in
    let first = eqb-true r.code n (and_parts (r.code == n) (codes_from (suc n) rows) all).0 in
    ap (λ (x : Row). x.code) (sym same) ∙ first ∙ (let e : n ≡ n + 0 = omega arith in e)
code_at n (r ∷ rows) (suc place) row all is =
    code_at (suc n) rows place row (and_parts (r.code == n) (codes_from (suc n) rows) all).1 is ∙ (let e : suc n + place ≡ n + suc place = omega arith in e)

-- what is found in the table is one of it
pub found_board : (p : Row → Bool) (row : Row) → find p boards ≡ Some row → IsBoard row
found_board p row is =
    let place = position_or_len p boards in
    let at : slice_get boards place ≡ Some row = sym (find_at p boards) ∙ is in
    let code : row.code ≡ place = code_at 0 boards place row refl at ∙ (let e : 0 + place ≡ place = omega arith in e) in
    ap (slice_get boards) code ∙ at

all_at : (q : Row → Bool) (rows : List Row) (place : ℕ) (row : Row) → list_all q rows ≡ true → slice_get rows place ≡ Some row → q row ≡ true
all_at q [] place row all is = cc
all_at q (r ∷ rows) zero row all is = let same : r ≡ row = cc in ap q (sym same) ∙ (and_parts (q r) (list_all q rows) all).0
all_at q (r ∷ rows) (suc place) row all is = all_at q rows place row (and_parts (q r) (list_all q rows) all).1 is

-- what a test says of each row of the table it says of a board
pub of_boards : (q : Row → Bool) → list_all q boards ≡ true → (row : Row) → IsBoard row → q row ≡ true
of_boards q all row is = all_at q boards row.code row all is

-- it is one of the table
pub row_known : (r : Option (Bor Board)) (p : Row → Bool) → option_map (λ board. row_of board.now) r ≡ find p boards
    → IfSome r (λ board. IsBoard (row_of board.now))
row_known None p is = tt
row_known (Some board) p is = found_board p (row_of board.now) (sym is)
