use Rattle.std.proofs.Common.{◌*◌, ◌-◌, ◌∙◌, sym, inl, inr}
use Rattle.std.proofs.lemmas.Bool.{cases_Bool}
use Rattle.tia_core.specs.Clock.{pixels}
use Rattle.tia_core.proofs.Stretches.{painted-nothing}
use Rattle.vcs_machine.proofs.LagLemmas.{written-line}
use Rattle.vcs_machine.proofs.devices.Devices.write_unseen.Goals as goal

pub returns-then-not-keeps-clause-behind : goal.returns-then-not-keeps-clause-behind
returns-then-not-keeps-clause-behind g c =
    let d = c.args.self.now in
    let w = c.write_unseen in record {
      riot_left = c.requires.riot_left;
      most_riot = c.requires.most_riot;
      most = c.requires.most;
      early = λ quiet. elim (cases_Bool w.result) [
        | inl written ↦ rw (written-line d.tia w.new.self c.args.register c.args.value (w.ensures.state written 0)) (c.requires.early quiet)
        | inr other ↦ rw (w.ensures.others other) (c.requires.early quiet)
      ];
    }

pub returns-then-not-keeps-clause-effect : goal.returns-then-not-keeps-clause-effect
returns-then-not-keeps-clause-effect g c = λ written. c.write_unseen.ensures.effect written (3 * (76 - c.args.self.now.lag_left))

pub returns-then-not-keeps-clause-sink : goal.returns-then-not-keeps-clause-sink
returns-then-not-keeps-clause-sink g c =
    let d = c.args.self.now in
    let nothing = painted-nothing g.S.Paint.drawn d.sink in
    nothing (pixels (3 * (76 - d.lag_left)) c.write_unseen.new.self) (c.keeps.ensures c.if-not-keeps.true)
    ∙ sym (nothing (pixels (3 * (76 - d.lag_left)) d.tia) (c.keeps.ensures c.if-not-keeps.true))
