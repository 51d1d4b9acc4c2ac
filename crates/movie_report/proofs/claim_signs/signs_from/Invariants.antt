use Rattle.std.proofs.Common.{◌≡◌, ◌++◌, drop, map, slice_get, IfSome}
use Rattle.movie_report.specs.ClaimSigns.{claim_sign}
use Rattle.movie_report.specs.Private.Standing.{StandsBefore}
use Rattle.movie_report.proofs.claim_signs.signs_from.Given as goal

abbrev pub invariant-loop-index : goal.invariant-loop-index
invariant-loop-index g l = record {
  at : IfSome (slice_get l.movie.checkpoints l.index) (λ c. StandsBefore l.movie c.frame l.cursor);
  signs : l.signs.items ++ map (claim_sign l.movie) (drop l.index l.movie.checkpoints)
      ≡ map (claim_sign l.movie) (drop l.before l.movie.checkpoints);
}
