use Rattle.std.proofs.Common.{◌*◌}
use Rattle.std.specs.Fn.{iterate}
use Rattle.tia_chip.specs.Clock.{after_clock}
use Rattle.tia_chip.specs.Write.{tia_after_write}
use Rattle.chip_machine.proofs.LagLemmas.{late-sink, late-tia}
use Rattle.chip_machine.proofs.devices.Devices.write_late.Goals as goal

pub returns-clause-tia : goal.returns-clause-tia
returns-clause-tia g c =
    let d = c.args.self.now in
    let n = 3 * c.lag-clocks.result in
    let written = tia_after_write (iterate after_clock n d.tia) c.args.register c.args.value in
    rw c.lag-clocks.ensures at (late-tia n c.write_late.new.self d.tia written c.write_late.result c.write_late.ensures.state c.write_late.ensures.others)

pub returns-clause-sink : goal.returns-clause-sink
returns-clause-sink g c =
    let d = c.args.self.now in
    rw c.lag-clocks.ensures at
    (late-sink g.S.Paint.drawn (3 * c.lag-clocks.result) c.write_late.new.self d.tia d.sink c.write_late.result c.write_late.ensures.pixels c.write_late.ensures.others)
