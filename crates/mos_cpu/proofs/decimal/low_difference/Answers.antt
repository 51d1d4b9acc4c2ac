use Rattle.std.proofs.Common.{◌%◌}
use Rattle.mos_cpu.proofs.DecimalLemmas.{and_15, low_lacks}
use Rattle.mos_cpu.proofs.StatusLemmas.{and_one}
use Rattle.mos_cpu.proofs.decimal.low_difference.Goals as goal

pub returns-then-have-taken-clause-difference : goal.returns-then-have-taken-clause-difference
returns-then-have-taken-clause-difference c =
    low_lacks (c.args.a % 16) (c.args.m % 16) (c.args.p % 2) c.lacking_digit.result
    (simp (and_15, and_one) at c.if-have-taken.true) (simp (and_15, and_one) at c.lacking_digit.ensures.value)
