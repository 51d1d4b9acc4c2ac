use Rattle.tia_core.proofs.RunLemmas.{changes-one, changes-zero}
use Rattle.tia_core.proofs.mask.changes.Goals as goal

pub returns-then-rest-eq1 : goal.returns-then-rest-eq1
returns-then-rest-eq1 c = λ k lt e. changes-one c.args.word c.args.first k c.if-rest-eq1.true lt e

pub returns-else-rest-eq1 : goal.returns-else-rest-eq1
returns-else-rest-eq1 c = λ k lt e. changes-zero c.args.word c.args.first k c.if-rest-eq1.false e
