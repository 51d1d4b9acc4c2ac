use Rattle.std.proofs.Common.{◌≡◌, ◌-◌, ◌*◌, arith}
use Rattle.vcs_machine.specs.Private.Lag.{tia_seen}
use Rattle.vcs_machine.proofs.BeamCycleLemmas.{lines-few}
use Rattle.vcs_machine.proofs.console.Console.has_event.Goals as goal

pub returns-clause-early : goal.returns-clause-early
returns-clause-early g c = λ quiet.
    let d = c.self.inside.devices in
    let tia : c.args.self.now.tia ≡ tia_seen d = cc in
    rw tia (lines-few (3 * (76 - d.lag_left)) d.tia (omega arith) (c.self.invariant.0.early quiet))
