use Rattle.std.proofs.Common.{refl}
use Rattle.tia_chip.specs.Numbers.{is_tia}
use Rattle.chip_machine.proofs.state.State.power_on.Goals as goal

pub of_parts-requires-clause-tia : goal.of_parts-requires-clause-tia
unfolding is_tia
of_parts-requires-clause-tia c = rw c.power_on-3.ensures refl

pub of_parts-requires-clause-settled : goal.of_parts-requires-clause-settled
of_parts-requires-clause-settled c = rw c.power_on-3.ensures refl

pub of_parts-requires-clause-aligned : goal.of_parts-requires-clause-aligned
of_parts-requires-clause-aligned c = rw c.power_on-3.ensures refl
