use Rattle.std.proofs.Common.{◌∙◌, ◌-◌, ◌<◌, sym, ap, arith}
use Rattle.tia_core.specs.Collision.{pairs_of}
use Rattle.tia_core.proofs.PairLemmas.{stretch-none}
use Rattle.tia_core.proofs.masks.Masks.latched_by_masks.Goals as goal

pub returns-clause-value : goal.returns-clause-value
returns-clause-value c =
    stretch-none c.args.tia.now c.args.tia.now.collisions c.args.from (c.args.to - c.args.from) (λ y le lt.
    let h : y < 160 = omega arith in
    ap pairs_of (sym (c.renew.ensures.shown y h))
    ∙ c.any_two_meet.ensures c.if-any_two_meet.false y le (omega arith))
