use Rattle.std.proofs.Common.{arith, sym, ◌∙◌}
use Rattle.mos_cpu.proofs.RunningStatusLemmas.{put_signs, put_status, byte_negative, byte_zero}
use Rattle.mos_cpu.proofs.running_status.RunningStatus.with_sign.Goals as goal

pub returns-clause-value : goal.returns-clause-value
returns-clause-value c =
    let value = c.args.value in
    rw (← c.self.view_is)
    (put_signs _ _ _ value value value (byte_negative value (omega arith)) (byte_zero value (omega arith)))

pub returns-clause-status : goal.returns-clause-status
returns-clause-status c = rw (← c.self.view_is) (put_status _ _ _ ∙ sym (put_status _ _ _))
