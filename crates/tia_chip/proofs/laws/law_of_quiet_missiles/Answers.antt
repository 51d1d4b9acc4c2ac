use Rattle.tia_chip.proofs.QuietMissiles.{missile-quiet, missile-shows, missile-steps}
use Rattle.tia_chip.proofs.laws.law_of_quiet_missiles.Goals as goal

pub returns : goal.returns
returns c = record { shows = missile-shows; steps = missile-steps; quiet = missile-quiet }
