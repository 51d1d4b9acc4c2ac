use Rattle.std.proofs.Common.{refl}
use Rattle.tia_core.specs.Private.ObjectSets.{bl, pf}
use Rattle.tia_core.proofs.Windows.{window-met}
use Rattle.tia_core.proofs.window.Window.pairs_of_ball.Goals as goal

pub returns-clause-value : goal.returns-clause-value
returns-clause-value c =
    let a = c.args in
    let r = c.requires in
    let w = c.requires.window in
    let met = window-met a.tia.now a.from a.to c.pixels.result r.range r.short c.pixels.ensures in
    rw (
      c.bit.ensures,
      met bl pf _ _ _ w.ball w.playfield c.all_overlap.ensures.some c.all_overlap.ensures.none,
    ) refl
