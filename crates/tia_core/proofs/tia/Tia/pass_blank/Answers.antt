use Rattle.std.proofs.Common.{rules}
use Rattle.tia_core.proofs.Stretches.{blank-stretch}
use Rattle.tia_core.proofs.MaskFits.{fit-placed}
use Rattle.tia_core.proofs.tia.Tia.pass_blank.Goals as goal

pub invariant_of-self : goal.invariant_of-self
invariant_of-self c = (search rules, fit-placed c.self.inside.fields c.self.inside.masks _ _ _ c.self.invariant.1)

pub returns : goal.returns
returns c = rw ((blank-stretch c.args.count c.args.self.now c.requires).0, ← c.self.view_is)
