use Rattle.std.proofs.Common.{◌≤◌, arith}
use Rattle.chip_machine.specs.Consoles.{Console, most_cycles}
use Rattle.chip_machine.specs.Private.Lag.{cycles_seen, riot_seen, sink_seen, tia_seen}
use Rattle.chip_machine.proofs.LagLemmas.{two-passed}
use Rattle.chip_machine.proofs.console.Console.two_cycles.Goals as goal

pub returns : goal.returns
returns g c =
    let drawn = g.S.Paint.drawn in
    let inside = c.self.inside in
    let before : Console g.row.S.Denot = record {
      cart = inside.cart;
      riot = riot_seen inside.devices;
      tia = tia_seen inside.devices;
      sink = sink_seen drawn inside.devices;
      byte = inside.byte;
      is_stopped = inside.is_stopped;
      has_ended = inside.has_ended;
      cycles = cycles_seen inside.devices;
    } in
    let few : before.cycles ≤ most_cycles = omega arith in
    let now = c.pass.ensures in
    rw (← c.self.view_is) (two-passed drawn before _ _ _ _ few now.riot now.tia now.sink now.cycles)
