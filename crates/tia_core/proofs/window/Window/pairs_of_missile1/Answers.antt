use Rattle.std.proofs.Common.{refl}
use Rattle.tia_core.specs.Private.ObjectSets.{bl, m1, p0, p1, pf}
use Rattle.tia_core.proofs.Windows.{window-met, window-without}
use Rattle.tia_core.proofs.window.Window.pairs_of_missile1.Goals as goal

pub returns-then-overlap-clause-value : goal.returns-then-overlap-clause-value
returns-then-overlap-clause-value c =
    let a = c.args in
    let r = c.requires in
    let w = c.requires.window in
    let met = window-met a.tia.now a.from a.to c.pixels-within.result r.range r.short c.pixels-within.ensures in
    rw (
      c.bit.ensures,
      c.bit-then-overlap.ensures,
      c.bit-then-overlap-2.ensures,
      c.bit-then-overlap-3.ensures,
      met m1 p0 _ _ _ w.missile1 w.player0 c.all_overlap.ensures.some c.all_overlap.ensures.none,
      met m1 p1 _ _ _ w.missile1 w.player1 c.all_overlap-then-overlap.ensures.some c.all_overlap-then-overlap.ensures.none,
      met m1 pf _ _ _ w.missile1 w.playfield c.all_overlap-then-overlap-2.ensures.some c.all_overlap-then-overlap-2.ensures.none,
      met m1 bl _ _ _ w.missile1 w.ball c.all_overlap-then-overlap-3.ensures.some c.all_overlap-then-overlap-3.ensures.none,
    ) refl

pub returns-else-overlap-clause-value : goal.returns-else-overlap-clause-value
returns-else-overlap-clause-value c =
    let a = c.args in
    let r = c.requires in
    let w = c.requires.window in
    let none = window-without a.tia.now a.from a.to c.pixels-within.result r.range r.short c.pixels-within.ensures in
    let clear = c.overlap.ensures c.if-overlap.false in
    rw (
      ← none m1 p0 _ _ w.missile1 w.player0 clear,
      ← none m1 p1 _ _ w.missile1 w.player1 clear,
      ← none m1 pf _ _ w.missile1 w.playfield clear,
      ← none m1 bl _ _ w.missile1 w.ball clear,
    ) refl
