use Rattle.vcs_machine.proofs.OneStop.{stops_as-only, stops_as-found}
use Rattle.vcs_machine.proofs.laws.law_of_one_stop.Goals as goal

pub returns : goal.returns
returns g c = record { only = λ meaning. stops_as-only meaning; found = λ meaning. stops_as-found meaning }
