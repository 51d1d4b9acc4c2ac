use Rattle.std.proofs.Common.{◌≡◌}
use Rattle.run_cursor.specs.Cursor.{IsAt}
use Rattle.movie_report.specs.ClaimPlace.{first_frame_in}
use Rattle.movie_report.proofs.ClaimPlaceLemmas.{later_frame_in}
use Rattle.movie_report.proofs.claim_place.first_frame_in.Given as goal

abbrev pub invariant-loop-before : goal.invariant-loop-before
invariant-loop-before g l = record {
  at : IsAt l.movie l.before l.cursor;
  later : later_frame_in l.movie l.state l.before ≡ first_frame_in l.movie l.state;
}
