use Rattle.std.proofs.Common.{◌+◌}
use Rattle.std.specs.Io.KnownBytes.{Appends}
use Rattle.run_cursor.specs.Cursor.{IsAt}
use Rattle.commands.specs.Private.Views.{bytes_shown}
use Rattle.commands.specs.AskedFrames.{from_frames}
use Rattle.replay_segments.specs.NextCheckpoint.{StandBefore}
use Rattle.commands.proofs.asked_frames.write_frames.Given as goal

abbrev pub invariant-loop-k : goal.invariant-loop-k
invariant-loop-k g l = record {
  at : IsAt l.fn.cursor.movie (l.fn.cursor.frame + l.k) l.cursor;
  written : Appends (g.W.Write.contents l.fn.writer) (g.W.Write.contents l.writer) (from_frames (bytes_shown l.fn.cursor.movie l.view) l.fn.cursor.frame l.k);
  passed : StandBefore l.fn.cursor.movie l.next (l.fn.cursor.frame + l.k + 1);
}
