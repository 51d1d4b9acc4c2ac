use Rattle.replay_segments.proofs.FindLemmas.{IsAnswerBelow}
use Rattle.replay_segments.proofs.finding.answer_of.Given as goal

abbrev pub invariant-loop-i : goal.invariant-loop-i
invariant-loop-i l = IsAnswerBelow l.pieces l.number l.i l.answer
