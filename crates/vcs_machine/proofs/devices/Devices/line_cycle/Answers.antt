use Rattle.std.proofs.Common.{◌-◌, sym}
use Rattle.vcs_machine.proofs.LagLemmas.{line-later}
use Rattle.vcs_machine.proofs.devices.Devices.line_cycle.Goals as goal

pub returns-clause-value : goal.returns-clause-value
returns-clause-value g c =
    let d = c.args.self.now in
    rw (c.beam.ensures.value, c.lag.ensures) (sym (line-later (76 - d.lag_left) d.tia (rw c.beam.ensures.value at c.beam.ensures.range)))
