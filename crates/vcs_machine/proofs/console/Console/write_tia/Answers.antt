use Rattle.std.proofs.Common.{◌-◌, ◌*◌, refl}
use Rattle.vcs_machine.proofs.LagLemmas.{written-unchanged}
use Rattle.vcs_machine.proofs.console.Console.write_tia.Goals as goal

pub returns-then-is_unchanged_by : goal.returns-then-is_unchanged_by
returns-then-is_unchanged_by g c =
    let d = c.self.inside.devices in
    written-unchanged c.args.self.now (3 * (76 - d.lag_left)) d.tia c.args.register c.args.value
    (cc) (c.if-is_unchanged_by.ensures.state refl) (c.if-is_unchanged_by.ensures.effect refl)
