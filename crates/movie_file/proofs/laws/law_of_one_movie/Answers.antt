use Rattle.movie_file.proofs.MovieLaws.{one_movie}
use Rattle.movie_file.proofs.laws.law_of_one_movie.Goals as goal

pub returns : goal.returns
returns c = one_movie
