use Rattle.std.specs.Prelude.{◌==◌}
use Rattle.bus_cycles.proofs.HeldLemmas.{same-either}
use Rattle.bus_cycles.proofs.near.NearBusBus.peek_zero.Goals as goal

pub returns : goal.returns
returns g c = rw (← c.self.view_is) (same-either (c.args._address == 0))
