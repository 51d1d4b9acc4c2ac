use Rattle.tia_core.proofs.RunLemmas.{bits-before}
use Rattle.tia_core.proofs.mask.first_change.Goals as goal

pub returns-clause-clear : goal.returns-clause-clear
returns-clause-clear c = λ k pos lt. bits-before c.args.changes k c.ranges.changes.fits pos lt
