use Rattle.std.proofs.Common.{rules}
use Rattle.tia_core.proofs.MaskFits.{fit-latched}
use Rattle.tia_core.proofs.tia.Tia.new_frame.Goals as goal

pub invariant_of-self : goal.invariant_of-self
invariant_of-self c = (search rules, fit-latched c.self.inside.fields c.self.inside.masks _ c.self.invariant.1)
