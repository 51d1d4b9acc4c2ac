use Rattle.std.proofs.Common.{◌-◌, arith}
use Rattle.tia_core.proofs.PairLemmas.{stretch-idle}
use Rattle.tia_core.proofs.masks.Masks.collisions_after.Goals as goal

pub returns-then-is_idle-clause-value : goal.returns-then-is_idle-clause-value
returns-then-is_idle-clause-value c =
    stretch-idle c.args.tia.now c.args.tia.now.collisions c.args.from (c.args.to - c.args.from)
    (λ y le lt. c.is_idle.ensures c.if-is_idle.true y (omega arith))
