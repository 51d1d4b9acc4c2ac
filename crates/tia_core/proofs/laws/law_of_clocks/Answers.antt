use Rattle.tia_core.specs.Clock.{after_clock}
use Rattle.tia_core.proofs.ClockLemmas.{iterate-add, pixels-add}
use Rattle.tia_core.proofs.laws.law_of_clocks.Goals as goal

pub returns-clause-state : goal.returns-clause-state
returns-clause-state c m n s = iterate-add after_clock m n s

pub returns-clause-pixels : goal.returns-clause-pixels
returns-clause-pixels c m n s = pixels-add m n s
