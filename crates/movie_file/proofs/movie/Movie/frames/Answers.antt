use Rattle.std.proofs.Common.{arith}
use Rattle.movie_file.proofs.VersionLemmas.{most_frames-most}
use Rattle.movie_file.proofs.movie.Movie.frames.Goals as goal

pub returns-clause-most : goal.returns-clause-most
returns-clause-most c = omega (arith, c.self.invariant.few_frames, most_frames-most c.self.inside.version)
