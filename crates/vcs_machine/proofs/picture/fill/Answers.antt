use Rattle.std.proofs.Common.{◌≡◌, ◌+◌, ◌-◌, suc, arith}
use Rattle.vcs_machine.proofs.picture.fill.Goals as goal

pub loop-place-preserved : goal.loop-place-preserved
loop-place-preserved c =
    let one : c.args.to - c.loop-place.place ≡ suc (c.args.to - (c.loop-place.place + 1)) = omega arith in rw one at c.loop-place.invariant
