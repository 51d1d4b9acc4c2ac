use Rattle.std.proofs.Common.{arith}
use Rattle.tia_core.proofs.ObjectMaskLemmas.{mirrored-bit}
use Rattle.tia_core.proofs.object_masks.mirrored_half.Goals as goal

pub returns : goal.returns
returns c = λ i h.
    rw (c.from.ensures, c.from-2.ensures, c.from-3.ensures)
    (mirrored-bit c.args.pf0 c.args.pf1 c.args.pf2 c.reverse_bits.result c.reversed_half.result i
    (omega arith) (omega arith) c.reverse_bits.ensures c.reversed_half.ensures.bits h)
