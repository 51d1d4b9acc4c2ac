use Rattle.std.proofs.Common.{length}
use Rattle.replay_segments.proofs.OneVerdict.{IsJudged-once}
use Rattle.replay_segments.proofs.laws.law_of_one_verdict.Goals as goal

pub returns : goal.returns
returns c m keep v w movie one two = IsJudged-once m m.start 0 keep (length m.inputs) v w movie one two
