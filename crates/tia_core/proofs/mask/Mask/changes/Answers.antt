use Rattle.std.proofs.Common.{arith}
use Rattle.tia_core.proofs.RunLemmas.{covers-alike}
use Rattle.tia_core.proofs.mask.Mask.changes.Goals as goal

pub returns : goal.returns
returns c = λ k lt e. rw (← c.self.view_is) (covers-alike c.self.inside.words c.args.x k c.requires lt (c.changes.ensures k (omega arith) e))
