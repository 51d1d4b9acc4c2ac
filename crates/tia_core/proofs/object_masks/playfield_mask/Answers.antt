use Rattle.std.proofs.Common.{◌∙◌, sym, arith}
use Rattle.tia_core.specs.Playfield.{playfield_bit, playfield_index}
use Rattle.tia_core.proofs.ObjectMaskLemmas.{byte-shows}
use Rattle.tia_core.proofs.MaskWordLemmas.{covers-is, five-words}
use Rattle.tia_core.proofs.object_masks.playfield_mask.Goals as goal

pub returns : goal.returns
returns c = λ x h.
    let a = c.args in
    let shows = byte-shows a.pf0 a.pf1 a.pf2 a.mirrored c.left_half-left.result c.right_half-right.result c.left_half-left.ensures c.right_half-right.ensures in
    c.of_words.ensures x h
    ∙ sym (covers-is _ x h)
    ∙ five-words _ _ _ _ _ (λ y. playfield_bit a.pf0 a.pf1 a.pf2 (playfield_index a.mirrored y))
    (λ k lt. c.quadruple_bits.ensures k lt ∙ shows _ 0 k (omega arith) (omega arith) lt)
    (λ k lt. c.quadruple_bits-2.ensures k lt ∙ shows _ 1 k (omega arith) (omega arith) lt)
    (λ k lt. c.quadruple_bits-3.ensures k lt ∙ shows _ 2 k (omega arith) (omega arith) lt)
    (λ k lt. c.quadruple_bits-4.ensures k lt ∙ shows _ 3 k (omega arith) (omega arith) lt)
    (λ k lt. c.quadruple_bits-5.ensures k lt ∙ shows _ 4 k (omega arith) (omega arith) lt)
    x h
