use Rattle.movie_file.proofs.RecordLaws.{state_again, state_takes}
use Rattle.movie_file.proofs.laws.law_of_records.Goals as goal

pub returns : goal.returns
returns c = record { found = state_again; written = state_takes }
