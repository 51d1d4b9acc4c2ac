use Rattle.std.proofs.Common.{◌≡◌, ◌+◌, ◌-◌, suc, arith}
use Rattle.tia_core.proofs.paint.Paint.put_run.Goals as goal

pub loop-x-preserved : goal.loop-x-preserved
loop-x-preserved g c =
    let left : c.args.to - c.loop-x.x ≡ suc (c.args.to - (c.loop-x.x + 1)) = omega arith in
    rw c.put.ensures (rw left at c.loop-x.invariant)
