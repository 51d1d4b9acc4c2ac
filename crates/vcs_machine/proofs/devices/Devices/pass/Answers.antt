use Rattle.std.proofs.Common.{◌-◌, rules}
use Rattle.vcs_machine.proofs.LagLemmas.{left-less, riot-later, tia-later, sink-later}
use Rattle.vcs_machine.proofs.devices.Devices.pass.Goals as goal

pub returns-else-is_short : goal.returns-else-is_short
returns-else-is_short g c =
    let d = c.args.self.now in
    let less = left-less d.lag_left c.args.cycles c.if-is_short.false c.requires.behind.most in
    record {
      behind = search rules;
      riot = riot-later d.riot_left d.lag_left c.args.cycles d.riot c.if-is_short.false c.requires.behind.most c.requires.behind.riot_left;
      tia = rw less (tia-later (76 - d.lag_left) c.args.cycles d.tia);
      sink = rw less (sink-later g.S.Paint.drawn (76 - d.lag_left) c.args.cycles d.tia d.sink);
      event = λ same. same;
    }
