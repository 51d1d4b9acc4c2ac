use Rattle.movie_file.proofs.MovieLaws.{spelled_is_read, read_is_spelled}
use Rattle.movie_file.proofs.laws.law_of_reading.Goals as goal

pub returns : goal.returns
returns c = record { found = spelled_is_read; spelled = read_is_spelled }
