use Rattle.std.proofs.Common.{◌+◌, ◌∙◌, ap}
use Rattle.tia_core.specs.declared.objects.Objects.{Objects}
use Rattle.tia_core.proofs.MaskFits.{window-bl, window-m0, window-m1, window-p0, window-p1}
use Rattle.tia_core.proofs.masks.Masks.window.Goals as goal

pub returns-clause-window : goal.returns-clause-window
returns-clause-window c =
    let t = c.args.tia.now in
    let first = c.args.first in
    let lawful = c.requires.lawful in
    let fit = c.find_patterns.ensures.fit in
    let fresh = c.find_patterns.ensures.fresh in
    record {
      player0 = window-p0 t first _ _ lawful.position_p0 (fit.pattern_p0 (ap (λ (o : Objects). o.player0) fresh)) c.window.ensures;
      player1 = window-p1 t first _ _ lawful.position_p1 (fit.pattern_p1 (ap (λ (o : Objects). o.player1) fresh)) c.window-2.ensures;
      missile0 = rw c.unlocked.ensures (window-m0 t first _ _ lawful.position_m0 (fit.pattern_m0 (ap (λ (o : Objects). o.missile0) fresh)) c.window-3.ensures);
      missile1 = rw c.unlocked-2.ensures (window-m1 t first _ _ lawful.position_m1 (fit.pattern_m1 (ap (λ (o : Objects). o.missile1) fresh)) c.window-4.ensures);
      ball = window-bl t first _ _ lawful.position_bl (fit.pattern_bl (ap (λ (o : Objects). o.ball) fresh)) c.window-5.ensures;
      playfield = λ k lt most. c.window-6.ensures k lt most ∙ fit.pattern_pf (ap (λ (o : Objects). o.playfield) fresh) (first + k) most;
    }
