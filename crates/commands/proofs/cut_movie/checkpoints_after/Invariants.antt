use Rattle.std.proofs.Common.{◌≤◌, ◌+◌, ◌/◌}
use Rattle.std.specs.Prelude.{vec_capacity}
use Rattle.movie_file.specs.ClaimedStates.{Claims}
use Rattle.run_cursor.specs.Cursor.{IsAt}
use Rattle.commands.proofs.cut_movie.checkpoints_after.Given as goal

abbrev pub invariant-loop-k : goal.invariant-loop-k
invariant-loop-k g l = record {
  made : Claims l.fn.cursor.movie l.fn.cursor.frame l.every l.k l.checkpoints.items;
  at : IsAt l.fn.cursor.movie (l.fn.cursor.frame + l.k) l.cursor;
  room : l.frames / l.every ≤ vec_capacity l.checkpoints;
}
