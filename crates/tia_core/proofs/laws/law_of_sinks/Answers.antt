use Rattle.tia_core.proofs.ClockLemmas.{painted-add}
use Rattle.tia_core.proofs.laws.law_of_sinks.Goals as goal

pub returns : goal.returns
returns g c drawn sink m n s = painted-add drawn sink m n s
