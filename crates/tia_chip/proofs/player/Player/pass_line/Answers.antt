use Rattle.tia_chip.proofs.QuietLines.{player-line}
use Rattle.tia_chip.proofs.player.Player.pass_line.Goals as goal

pub returns-clause-value : goal.returns-clause-value
returns-clause-value c = (player-line c.args.self.now c.requires.quiet)
