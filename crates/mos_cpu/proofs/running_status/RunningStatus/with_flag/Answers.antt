use Rattle.std.proofs.Common.{sym, ◌∙◌}
use Rattle.mos_cpu.proofs.RunningStatusLemmas.{put_below, put_carry, put_status}
use Rattle.mos_cpu.proofs.running_status.RunningStatus.with_flag.Goals as goal

pub returns-in-Carry-clause-value : goal.returns-in-Carry-clause-value
returns-in-Carry-clause-value c = rw (c.in-Carry.is, ← c.self.view_is) (put_carry _ _ _ c.args.on)

pub returns-in-Carry-clause-status : goal.returns-in-Carry-clause-status
returns-in-Carry-clause-status c = rw (← c.self.view_is) (put_status _ _ _ ∙ sym (put_status _ _ _))

pub returns-in_default : goal.returns-in_default
returns-in_default c =
    record {
      value = rw (c.with_flag.ensures.value, ← c.self.view_is)
          (put_below _ _ _ c.args.flag c.args.on c.requires c.in_default.not-Carry);
      status = rw (← c.self.view_is) (put_status _ _ _ ∙ c.with_flag.ensures.status ∙ sym (put_status _ _ _));
    }
