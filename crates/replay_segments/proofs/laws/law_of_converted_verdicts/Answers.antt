use Rattle.std.proofs.Common.{length}
use Rattle.replay_segments.proofs.Conversions.{judged-converted, judged-back}
use Rattle.replay_segments.proofs.laws.law_of_converted_verdicts.Goals as goal

pub returns : goal.returns
returns c = λ m keep v. (judged-converted m keep m.start 0 (length m.inputs) v, judged-back m keep m.start 0 (length m.inputs) v)
