use Rattle.std.proofs.lemmas.Bool.{eqb-true}
use Rattle.tia_core.specs.Private.ObjectSets.{visible_objects}
use Rattle.tia_core.proofs.IdleBeam.{idle-latched}
use Rattle.tia_core.proofs.masks.Masks.are_latched.Goals as goal

pub returns : goal.returns
returns c = λ same. idle-latched c.args.tia.now (rw (c.pairs_of_set.ensures (visible_objects c.args.tia.now) c.requires.visible) at (eqb-true _ _ same))
