use Rattle.vcs_machine.proofs.CycleLaws.{passed-cycles}
use Rattle.vcs_machine.proofs.laws.law_of_passed_cycles.Goals as goal

pub returns : goal.returns
returns g c drawn console n = passed-cycles drawn n console
