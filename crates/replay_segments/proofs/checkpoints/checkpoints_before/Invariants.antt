use Rattle.replay_segments.specs.NextCheckpoint.{StandBefore}
use Rattle.replay_segments.proofs.checkpoints.checkpoints_before.Given as goal

abbrev pub invariant-loop-next : goal.invariant-loop-next
invariant-loop-next l = StandBefore l.movie l.next l.frame
