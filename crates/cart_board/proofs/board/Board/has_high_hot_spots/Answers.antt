use Rattle.std.proofs.Common.{rules, tests}
use Rattle.std.proofs.lemmas.Iterator.{YieldsList-from_slice}
use Rattle.std.proofs.lemmas.Iterator.Search.{all_from_yields_List}
use Rattle.cart_board.specs.Private.Kept.{is_high}
use Rattle.cart_board.proofs.board.Board.has_high_hot_spots.Goals as goal

pub returns : goal.returns
returns c =
    all_from_yields_List is_high _ _ _ c.all.ensures.ran
    (YieldsList-from_slice c.args.self.now.hot_spots.now c.iter.ensures.rest) (λ x b q k. search (rules, tests))
