use Rattle.std.proofs.Common.{arith}
use Rattle.std.proofs.lemmas.Bool.Decides.{nat_tests}
use Rattle.tia_core.proofs.fields.TiaFields.equals.Goals as goal

pub returns : goal.returns
returns c = let e = c.eq.ensures in grind (arith, nat_tests)
