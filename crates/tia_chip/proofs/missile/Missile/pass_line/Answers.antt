use Rattle.tia_chip.proofs.QuietLines.{missile-line}
use Rattle.tia_chip.proofs.missile.Missile.pass_line.Goals as goal

pub returns-clause-value : goal.returns-clause-value
returns-clause-value c = (missile-line c.args.nusiz c.args.self.now c.requires.quiet)
