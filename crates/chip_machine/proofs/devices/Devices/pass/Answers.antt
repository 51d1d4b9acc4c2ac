use Rattle.std.proofs.Common.{◌∙◌, ◌*◌, refl, ap}
use Rattle.std.specs.Fn.{iterate}
use Rattle.tia_chip.specs.Clock.{after_clock}
use Rattle.chip_machine.specs.Private.Lag.{riot_after_steps}
use Rattle.chip_machine.proofs.LagLemmas.{riot-later, sink-later, tia-later}
use Rattle.chip_machine.proofs.devices.Devices.pass.Goals as goal

pub returns-clause-riot : goal.returns-clause-riot
returns-clause-riot g c =
    let d = c.make_room.new.self in
    riot-later d.riot_left d.lag_left c.args.cycles d.riot c.make_room.ensures.room c.make_room.ensures.behind.riot_left
    ∙ ap (riot_after_steps c.args.cycles) c.make_room.ensures.riot

pub returns-clause-tia : goal.returns-clause-tia
returns-clause-tia g c =
    let d = c.make_room.new.self in
    tia-later d.lag_left c.args.cycles d.tia c.make_room.ensures.room c.make_room.ensures.behind.most
    ∙ ap (iterate after_clock (3 * c.args.cycles)) c.make_room.ensures.tia

pub returns-clause-sink : goal.returns-clause-sink
returns-clause-sink g c =
    let d = c.make_room.new.self in
    sink-later g.S.Paint.drawn d.lag_left c.args.cycles d.tia d.sink c.make_room.ensures.room c.make_room.ensures.behind.most
    ∙ rw (c.make_room.ensures.sink, c.make_room.ensures.tia) refl
