use Rattle.tia_chip.proofs.QuietLines.{ball-line}
use Rattle.tia_chip.proofs.ball.Ball.pass_line.Goals as goal

pub returns-clause-value : goal.returns-clause-value
returns-clause-value c = rw c.begun_size-self.ensures.value (ball-line c.args.ctrlpf c.args.self.now c.requires.quiet)
