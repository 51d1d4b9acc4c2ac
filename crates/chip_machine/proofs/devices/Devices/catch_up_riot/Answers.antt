use Rattle.std.proofs.Common.{refl}
use Rattle.riot_chip.proofs.StepLemmas.{riot-steps}
use Rattle.chip_machine.proofs.devices.Devices.catch_up_riot.Goals as goal

pub returns : goal.returns
returns g c = rw (c.steps.ensures, riot-steps) refl
