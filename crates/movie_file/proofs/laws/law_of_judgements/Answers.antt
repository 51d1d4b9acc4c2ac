use Rattle.movie_file.proofs.RunLemmas.{sound_no_fault, sound_no_false, false_no_fault, same_kind}
use Rattle.movie_file.proofs.RunLemmas.{same_number}
use Rattle.movie_file.proofs.laws.law_of_judgements.Goals as goal

pub returns : goal.returns
returns c = record { no_fault = sound_no_fault; no_false = sound_no_false; not_both = false_no_fault; one_fault = same_kind; one_false = same_number }
