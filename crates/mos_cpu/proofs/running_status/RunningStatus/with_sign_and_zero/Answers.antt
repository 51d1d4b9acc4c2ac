use Rattle.std.proofs.Common.{arith, sym, ◌∙◌}
use Rattle.mos_cpu.proofs.RunningStatusLemmas.{put_signs, put_status, both_negative, both_zero}
use Rattle.mos_cpu.proofs.running_status.RunningStatus.with_sign_and_zero.Goals as goal

pub returns-clause-value : goal.returns-clause-value
returns-clause-value c =
    let sign = c.args.sign in
    let low = c.args.zero in
    rw (← c.self.view_is)
    (put_signs _ _ _ sign low _ (both_negative sign low (omega arith) c.requires) (both_zero sign low (omega arith) c.requires))

pub returns-clause-status : goal.returns-clause-status
returns-clause-status c = rw (← c.self.view_is) (put_status _ _ _ ∙ sym (put_status _ _ _))
