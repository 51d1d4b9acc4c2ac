use Rattle.std.proofs.Common.{arith}
use Rattle.tia_core.proofs.Windows.{joined-bit}
use Rattle.tia_core.proofs.mask.joined.Goals as goal

pub returns : goal.returns
returns c = λ k lt. rw (c.from.ensures, c.from-2.ensures) (joined-bit c.args.low c.args.high c.args.first k (omega arith) lt)
