use Rattle.tia_core.proofs.IdleBeam.{idle-apart}
use Rattle.tia_core.proofs.masks.Masks.is_idle.Goals as goal

pub returns-then-self : goal.returns-then-self
returns-then-self c = λ apart. idle-apart c.args.tia.now (c.requires.apart apart)
