use Rattle.std.proofs.Common.{◌/◌, ◌%◌, ◌^◌, ◌≤◌, arith}
use Rattle.std.proofs.Math.Nat.{pow-le-pow_right}
use Rattle.tia_chip.proofs.missile.size.Goals as goal

pub returns-clause-range : goal.returns-clause-range
returns-clause-range c =
    let power : 2 ^ (c.args.register / 16 % 4) ≤ 2 ^ 3 = pow-le-pow_right (omega arith) {i = c.args.register / 16 % 4} {j = 3} (omega arith)
    in omega arith
