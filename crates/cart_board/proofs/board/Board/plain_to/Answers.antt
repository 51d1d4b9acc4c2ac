use Rattle.std.proofs.Common.{◌∙◌, rules, tests, sym}
use Rattle.cart_board.proofs.PlainLemmas.{none-left, none-low}
use Rattle.cart_board.proofs.board.Board.plain_to.Goals as goal

pub returns-then-has_high_hot_spots-clause-plain : goal.returns-then-has_high_hot_spots-clause-plain
returns-then-has_high_hot_spots-clause-plain c = λ at low. record {
  untriggered = search (rules, tests);
  no_spot = none-low at c.args.self.now.hot_spots.now (sym c.has_high_hot_spots.ensures ∙ c.if-has_high_hot_spots.true) low;
  no_window = none-left c.args.self.now.windows.now (search (rules, tests));
}
