use Rattle.std.proofs.Common.{length}
use Rattle.replay_segments.proofs.CutLemmas.{AreCutsBelow}
use Rattle.replay_segments.proofs.cuts.Cuts.new.Given as goal

abbrev pub invariant-loop-i : goal.invariant-loop-i
invariant-loop-i l = AreCutsBelow (length l.movie.checkpoints) l.numbers.items l.i l.last
