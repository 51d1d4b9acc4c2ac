use Rattle.command_line.proofs.NamedBoards.{board_there, row_there}
use Rattle.command_line.proofs.named_board.NamedBoard.known.Goals as goal

pub invariant_of-result : goal.invariant_of-result
invariant_of-result c = record { known = board_there c.args.self.code _ (row_there c.all.result.now c.args.self.code _ c.all.ensures c.args.self.known) }

pub returns : goal.returns
returns c = row_there c.all.result.now c.args.self.code _ c.all.ensures c.args.self.known
