use Rattle.tia_core.proofs.MaskWordLemmas.{covers-is}
use Rattle.tia_core.proofs.mask.Mask.of_words.Goals as goal

pub returns : goal.returns
returns c = λ x h. covers-is c.args.words x h
