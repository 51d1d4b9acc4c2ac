use Rattle.std.proofs.Common.{false}
use Rattle.tia_core.proofs.MaskWordLemmas.{five-words, bit-zero}
use Rattle.tia_core.proofs.mask.Mask.empty.Goals as goal

pub returns : goal.returns
returns c = five-words 0 0 0 0 0 (λ x. false) (λ k h. bit-zero k) (λ k h. bit-zero k) (λ k h. bit-zero k) (λ k h. bit-zero k) (λ k h. bit-zero k)
