use Rattle.std.proofs.Common.{◌∙◌, rules, tests}
use Rattle.std.proofs.lemmas.Iterator.{YieldsList-from_slice}
use Rattle.std.proofs.lemmas.Iterator.Search.{find_from_yields_List}
use Rattle.cart_board.specs.Access.{is_at}
use Rattle.cart_board.proofs.board.Board.hot_spot_at.Goals as goal

pub returns : goal.returns
returns c =
    c.copied.ensures
    ∙ find_from_yields_List (is_at c.args.address) _ _ _ c.find.ensures.ran
    (YieldsList-from_slice c.args.self.now.hot_spots.now c.iter.ensures.rest) (λ x b q k. search (rules, tests))
