use Rattle.std.proofs.Common.{◌∙◌, ◌||◌, ap, rules, tests}
use Rattle.std.specs.List.{list_any}
use Rattle.std.proofs.lemmas.Iterator.{YieldsList-from_slice}
use Rattle.std.proofs.lemmas.Iterator.Search.{any_from_yields_List}
use Rattle.cart_board.specs.Board.{Row, has_length, row_of}
use Rattle.cart_board.specs.Boards.{boards}
use Rattle.cart_board.specs.declared.board.Board.{Board}
use Rattle.movie_hints.proofs.LengthLemmas.{any_mapped}
use Rattle.movie_hints.proofs.lengths.is_some_length.Goals as goal

pub returns-else-is_length : goal.returns-else-is_length
returns-else-is_length c =
    let test = λ (row : Row). has_length row c.args.bytes in
    let any = any_from_yields_List (λ (board : Board). test (row_of board)) _ _ _ c.any.ensures.ran
    (YieldsList-from_slice _ c.iter.ensures.rest) (λ x b q k. search (rules, tests)) in
    any ∙ any_mapped row_of test c.all.result.now ∙ ap (list_any test) c.all.ensures
    ∙ ap (λ b. b || list_any test boards) c.if-is_length.ensures
