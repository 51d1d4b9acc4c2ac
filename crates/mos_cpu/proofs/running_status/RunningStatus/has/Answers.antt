use Rattle.std.proofs.Common.{sym}
use Rattle.mos_cpu.proofs.RunningStatusLemmas.{has_carry, has_zero, has_negative, has_bit}
use Rattle.mos_cpu.proofs.running_status.RunningStatus.has.Goals as goal

pub returns-in-Carry : goal.returns-in-Carry
returns-in-Carry c = rw (c.in-Carry.is, ← c.self.view_is) (sym (has_carry _ _ _))

pub returns-in-Zero : goal.returns-in-Zero
returns-in-Zero c = rw (c.in-Zero.is, ← c.self.view_is) (sym (has_zero _ _ _))

pub returns-in-Negative : goal.returns-in-Negative
returns-in-Negative c = rw (c.in-Negative.is, ← c.self.view_is) (sym (has_negative _ _ _))

pub returns-in_default : goal.returns-in_default
returns-in_default c =
    rw (c.has.ensures, ← c.self.view_is)
    (sym (has_bit _ _ _ c.args.flag c.in_default.not-Carry c.in_default.not-Zero c.in_default.not-Negative))
