use Rattle.std.proofs.Common.{arith}
use Rattle.tia_core.proofs.ObjectMaskLemmas.{left-bit}
use Rattle.tia_core.proofs.object_masks.left_half.Goals as goal

pub returns : goal.returns
returns c = λ i h.
    rw (c.from.ensures, c.from-2.ensures, c.from-3.ensures)
    (left-bit c.args.pf0 c.args.pf1 c.args.pf2 c.reverse_bits.result i (omega arith) (omega arith) c.reverse_bits.ensures h)
