use Rattle.movie_file.proofs.RunLemmas.{run-shift}
use Rattle.movie_file.proofs.laws.law_of_runs.Goals as goal

pub returns : goal.returns
returns c = λ m s t from i j is. run-shift m s from i t is j
