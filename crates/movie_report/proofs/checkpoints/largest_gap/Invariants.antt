use Rattle.std.proofs.Common.{◌≡◌, drop, length, max}
use Rattle.std.specs.Prelude.{fold}
use Rattle.movie_file.specs.Movie.{AreCheckpoints}
use Rattle.movie_report.specs.CheckpointFacts.{gaps_from, largest}
use Rattle.movie_report.proofs.checkpoints.largest_gap.Given as goal

abbrev pub invariant-loop-index : goal.invariant-loop-index
invariant-loop-index l = record {
  gaps : fold max l.gap (gaps_from l.last (drop l.index l.movie.checkpoints)) ≡ largest (gaps_from 0 l.movie.checkpoints);
  left : AreCheckpoints l.movie.cartridge l.last (length l.movie.inputs) (drop l.index l.movie.checkpoints);
}
