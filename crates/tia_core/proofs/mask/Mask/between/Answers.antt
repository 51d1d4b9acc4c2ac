use Rattle.std.proofs.Common.{nat_le, nat_lt, ◌&&◌}
use Rattle.tia_core.proofs.MaskWordLemmas.{five-words}
use Rattle.tia_core.proofs.mask.Mask.between.Goals as goal

pub returns : goal.returns
returns c = five-words _ _ _ _ _
    (λ x. nat_le c.args.from x
    && nat_lt x c.args.to) c.ones.ensures c.ones-2.ensures c.ones-3.ensures c.ones-4.ensures
    c.ones-5.ensures
