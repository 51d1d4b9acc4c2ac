use Rattle.commands.proofs.CutMovies.{genuine}
use Rattle.commands.proofs.laws.law_of_cuts.Goals as goal

pub returns-clause-genuine : goal.returns-clause-genuine
returns-clause-genuine c = λ m c first count every cut. genuine m c first count every cut
