use Rattle.tia_chip.proofs.QuietBall.{ball-quiet, ball-shows, ball-steps}
use Rattle.tia_chip.proofs.laws.law_of_quiet_balls.Goals as goal

pub returns : goal.returns
returns c = record { shows = ball-shows; steps = ball-steps; quiet = ball-quiet }
