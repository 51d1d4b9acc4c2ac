-- What is said of a word that names no board, board by board.
use Rattle.std.proofs.Common.{◌≡◌, ◌∙◌, ℕ, ◌+◌, ◌<◌, ◌≤◌, List, [], ◌++◌, append_assoc, ap, codes, get_or, length, map, sym, take}
use Rattle.std.specs.List.{flat_map}
use Rattle.std.proofs.lemmas.List.{flat_map_more, take_all, take_more}
use Rattle.std.proofs.lemmas.List.Folds.{flat_map-map}
use Rattle.cart_board.specs.Board.{Row, row_of}
use Rattle.cart_board.specs.Boards.{boards}
use Rattle.cart_board.specs.declared.board.Board.{Board}
use Rattle.command_line.specs.Faults.{board_mistake}

-- a board's name, after a space
abbrev pub told : Board → List ℕ
told board = codes " " ++ board.name.now

-- the next board
pub told-next : (all : List Board) (i : ℕ) (d : Board) (before first both : List ℕ) → i < length all → before ≡ flat_map told (take i all)
    → first ≡ before ++ codes " " → both ≡ first ++ (get_or all i d).name.now → both ≡ flat_map told (take (i + 1) all)
told-next all i d before first both within done space name =
    let this = get_or all i d in
    name
    ∙ ap (λ l. l ++ this.name.now) (space ∙ ap (λ l. l ++ codes " ") done)
    ∙ append_assoc (flat_map told (take i all)) (codes " ") this.name.now
    ∙ flat_map_more told [] (take i all) this
    ∙ ap (flat_map told) (sym (take_more all i d within))

-- all boards
pub told-all : (all : List Board) (i : ℕ) (names word text : List ℕ) → length all ≤ i → map row_of all ≡ boards → names ≡ flat_map told (take i all)
    → text ≡ codes "error: invalid value '" ++ (word ++ (codes "' for '--board <NAME>': the boards are" ++ (names ++ codes "\n")))
    → text ≡ board_mistake word
told-all all i names word text end are done is =
    is
    ∙ ap (λ l. codes "error: invalid value '" ++ (word ++ (codes "' for '--board <NAME>': the boards are" ++ (l ++ codes "\n"))))
    (done ∙ ap (flat_map told) (take_all i all end)
    ∙ sym (flat_map-map (λ (row : Row). codes " " ++ row.name) row_of all)
    ∙ ap (flat_map (λ (row : Row). codes " " ++ row.name)) are)
