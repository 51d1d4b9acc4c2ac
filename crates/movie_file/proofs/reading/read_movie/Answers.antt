use Rattle.std.proofs.Common.{arith, rules}
use Rattle.movie_file.specs.Private.MovieParts.{data_of}
use Rattle.movie_file.specs.Reading.{movie_at}
use Rattle.movie_file.proofs.MovieLaws.{read_is_spelled, spelled_is_read}
use Rattle.movie_file.proofs.reading.read_movie.Goals as goal

pub returns-in_err-sizes-clause-only : goal.returns-in_err-sizes-clause-only
unfolding movie_at
returns-in_err-sizes-clause-only c = λ m h. rw (← spelled_is_read c.args.bytes.now m h) (search rules)

pub returns-in_err-parts-clause-only : goal.returns-in_err-parts-clause-only
unfolding movie_at
returns-in_err-parts-clause-only c = λ m h. rw (← spelled_is_read c.args.bytes.now m h) (search rules)

pub from_parts-requires : goal.from_parts-requires
unfolding movie_at
from_parts-requires c = (read_is_spelled c.args.bytes.now (data_of c.in_ok-parts.parts) (λ i. omega (arith, c.type_inv.bytes i)) (search rules)).lawful

pub returns-clause-found : goal.returns-clause-found
unfolding movie_at
returns-clause-found c = read_is_spelled c.args.bytes.now c.from_parts.result (λ i. omega (arith, c.type_inv.bytes i)) (search rules)

pub returns-clause-only : goal.returns-clause-only
unfolding movie_at
returns-clause-only c = λ m h. rw (← spelled_is_read c.args.bytes.now m h) (search rules)
