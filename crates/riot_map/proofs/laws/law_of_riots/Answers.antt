use Rattle.riot_map.proofs.RiotNumbers.{is_riot-fields_of, riot_of-fields_of, AreInRange-fields_of}
use Rattle.riot_map.proofs.laws.law_of_riots.Goals as goal

pub returns : goal.returns
returns c = record { same = riot_of-fields_of; lawful = is_riot-fields_of; in_range = AreInRange-fields_of }
