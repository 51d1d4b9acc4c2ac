use Rattle.tia_core.proofs.ClockLemmas.{iterate-clocked-keeps}
use Rattle.tia_core.proofs.laws.law_of_collisions.Goals as goal

pub returns : goal.returns
returns c n s k h = iterate-clocked-keeps n s k h
