use Rattle.std.proofs.Common.{arith}
use Rattle.terminal_text.proofs.Wiping.{line_is_short}
use Rattle.terminal_text.proofs.stage.Count.advance.Goals as goal

pub returns-clause-covered : goal.returns-clause-covered
returns-clause-covered c = λ few. line_is_short c.min-self.result c.args.self.now.all c.args.self.now.unit (omega (arith, c.min-self.ensures)) few
