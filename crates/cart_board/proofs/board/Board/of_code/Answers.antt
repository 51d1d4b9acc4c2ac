use Rattle.std.proofs.Common.{◌==◌, rules, tests}
use Rattle.std.proofs.lemmas.Iterator.{YieldsList-from_slice}
use Rattle.std.proofs.lemmas.Iterator.Search.{find_from_yields_List}
use Rattle.cart_board.specs.Boards.{boards}
use Rattle.cart_board.proofs.RowLemmas.{row_found, row_known}
use Rattle.cart_board.proofs.board.Board.of_code.Goals as goal

pub returns-clause-row : goal.returns-clause-row
returns-clause-row c =
    row_found c.find.result c.all.result.now boards (λ row. row.code == c.args.code)
    (find_from_yields_List (λ board. board.code == c.args.code) _ _ c.find.result c.find.ensures.ran
    (YieldsList-from_slice c.all.result.now c.iter.ensures.rest) (λ x b q k. search (rules, tests)))
    c.all.ensures

pub returns-clause-known : goal.returns-clause-known
returns-clause-known c = row_known c.find.result (λ row. row.code == c.args.code) (returns-clause-row c)
