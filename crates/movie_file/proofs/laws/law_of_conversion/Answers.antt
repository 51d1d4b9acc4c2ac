use Rattle.movie_file.proofs.Conversions.{converted-lawful, run-converted}
use Rattle.movie_file.proofs.laws.law_of_conversion.Goals as goal

pub returns : goal.returns
returns c = record { lawful = converted-lawful; run = run-converted }
