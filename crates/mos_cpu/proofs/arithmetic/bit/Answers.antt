use Rattle.std.proofs.Common.{refl, ◌∙◌}
use Rattle.std.proofs.lemmas.Nat.{and_le_r}
use Rattle.mos_cpu.proofs.StatusLemmas.{put_flag-swap}
use Rattle.mos_cpu.specs.declared.status.Flag.TheVariants.{Zero, Overflow}
use Rattle.mos_cpu.proofs.arithmetic.bit.Goals as goal

pub with_sign_and_zero-requires : goal.with_sign_and_zero-requires
with_sign_and_zero-requires c = and_le_r c.args.a c.args.m

pub returns-clause-result : goal.returns-clause-result
returns-clause-result c =
    rw (
      c.with_sign_and_zero.ensures.value,
      c.with_flag-overflow.ensures.value,
      c.has.ensures,
      put_flag-swap Zero Overflow _ _ _ (λ e. absurd cc),
    ) refl

pub returns-clause-status : goal.returns-clause-status
returns-clause-status c = c.with_sign_and_zero.ensures.status ∙ c.with_flag-overflow.ensures.status
