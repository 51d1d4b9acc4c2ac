use Rattle.movie_file.proofs.OneMaking.{one_made_movie, one_first_fault, no_made_fault}
use Rattle.movie_file.proofs.laws.law_of_making.Goals as goal

pub returns : goal.returns
returns c = record { one_movie = one_made_movie; one_fault = one_first_fault; not_both = no_made_fault }
