use Rattle.std.proofs.Common.{rules}
use Rattle.tia_core.proofs.IdleBeam.{idle-stays, idle-wraps}
use Rattle.tia_core.proofs.MaskFits.{fit-placed}
use Rattle.tia_core.proofs.tia.Tia.pass_idle.Goals as goal

pub invariant_of-self : goal.invariant_of-self
invariant_of-self c = (search rules, fit-placed c.self.inside.fields _ _ _ _ c.self.invariant.1)

pub invariant_of-self-else-clock-lt228 : goal.invariant_of-self-else-clock-lt228
invariant_of-self-else-clock-lt228 c = (search rules, fit-placed c.self.inside.fields _ _ _ _ c.self.invariant.1)

pub returns-then-clock-lt228 : goal.returns-then-clock-lt228
returns-then-clock-lt228 c =
    let idle = rw (← c.self.view_is) at c.requires.idle in
    rw (← c.self.view_is) (idle-stays c.args.n _ c.if-clock-lt228.true idle)

pub returns-else-clock-lt228 : goal.returns-else-clock-lt228
returns-else-clock-lt228 c =
    let idle = rw (← c.self.view_is) at c.requires.idle in
    rw (← c.self.view_is) (idle-wraps c.args.n _ c.self.invariant.0.clock c.requires.most c.if-clock-lt228.false idle)
