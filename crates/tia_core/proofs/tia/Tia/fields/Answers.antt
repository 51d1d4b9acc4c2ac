use Rattle.tia_core.proofs.LawfulNumbers.{passes}
use Rattle.tia_core.proofs.tia.Tia.fields.Goals as goal

pub returns-clause-lawful : goal.returns-clause-lawful
returns-clause-lawful c = passes c.self.inside.fields c.self.invariant.0
