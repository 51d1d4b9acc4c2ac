use Rattle.std.proofs.Common.{arith}
use Rattle.vcs_machine.proofs.BeamLaws.{after_wait-line}
use Rattle.vcs_machine.proofs.laws.law_of_waits.Goals as goal

pub returns : goal.returns
returns g c = grind (arith, after_wait-line)
