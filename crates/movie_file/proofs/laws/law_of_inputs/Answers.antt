use Rattle.movie_file.proofs.InputLists.{inputs_are_spelled, spelled_inputs_are_read}
use Rattle.movie_file.proofs.laws.law_of_inputs.Goals as goal

pub returns : goal.returns
returns c = record { found = spelled_inputs_are_read; spelled = inputs_are_spelled }
