use Rattle.std.proofs.Common.{arith, refl, ◌∙◌}
use Rattle.mos_cpu.proofs.SumLemmas.{difference_byte, difference_zero}
use Rattle.mos_cpu.proofs.arithmetic.compare.Goals as goal

pub returns-clause-result : goal.returns-clause-result
returns-clause-result c =
    rw (
      c.with_flag.ensures.value,
      c.with_sign-signed.ensures.value,
      difference_zero c.args.register c.args.m (omega arith) (omega arith),
      difference_byte c.args.register c.args.m (omega arith),
    ) refl

pub returns-clause-status : goal.returns-clause-status
returns-clause-status c = c.with_flag.ensures.status ∙ c.with_sign-signed.ensures.status
