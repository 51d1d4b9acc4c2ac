use Rattle.riot_map.proofs.TimerLaws.{riot-none, riot-one, riot-add}
use Rattle.riot_map.proofs.laws.law_of_riot_cycles.Goals as goal

pub returns : goal.returns
returns c = record { none = riot-none; one = riot-one; parts = riot-add }
