use Rattle.replay_segments.specs.Private.Finding.{ArePassedBelow}
use Rattle.replay_segments.proofs.finding.first_unpassed.Given as goal

abbrev pub invariant-loop-number : goal.invariant-loop-number
invariant-loop-number l = ArePassedBelow l.pieces l.number
