use Rattle.riot_map.proofs.TimerLaws.{read-running, read-past, read-cleared, intim-after_read}
use Rattle.riot_map.proofs.laws.law_of_the_timer.Goals as goal

pub returns : goal.returns
returns c = record { before_zero = read-running; past_zero = read-past; cleared = read-cleared; reads = intim-after_read }
