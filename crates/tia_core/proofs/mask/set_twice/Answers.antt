use Rattle.tia_core.proofs.MaskWordLemmas.{bit_or-is, bit_and-is}
use Rattle.tia_core.proofs.mask.set_twice.Goals as goal

pub returns : goal.returns
returns c = λ k. simp (bit_or-is, bit_and-is)
