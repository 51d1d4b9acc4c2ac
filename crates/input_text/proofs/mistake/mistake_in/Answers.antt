use Rattle.std.proofs.Common.{arith}
use Rattle.input_text.proofs.GoodLines.{all_named}
use Rattle.input_text.proofs.mistake.mistake_in.Goals as goal

pub returns-in-None : goal.returns-in-None
returns-in-None c = grind (arith, all_named, c.in-None.is, c.in-Some.ensures.words, c.count_in.ensures.readable)
