use Rattle.tia_chip.proofs.QuietPlayers.{player-quiet, player-shows, player-steps}
use Rattle.tia_chip.proofs.laws.law_of_quiet_players.Goals as goal

pub returns : goal.returns
returns c = record { shows = player-shows; steps = player-steps; quiet = player-quiet }
