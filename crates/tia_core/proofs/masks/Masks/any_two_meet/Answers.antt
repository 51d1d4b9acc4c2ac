use Rattle.tia_core.specs.Private.ObjectMasks.{objects_in}
use Rattle.tia_core.proofs.PairLemmas.{no-two}
use Rattle.tia_core.proofs.masks.Masks.any_two_meet.Goals as goal

pub returns : goal.returns
returns c = λ e x le lt. no-two (objects_in c.args.self.now x) (c.any_two_meet.ensures e x le lt)
