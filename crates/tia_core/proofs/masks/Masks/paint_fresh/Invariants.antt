use Rattle.std.proofs.Common.{◌≡◌, ◌≤◌, ◌-◌}
use Rattle.tia_core.specs.Clock.{sink_after_pixels}
use Rattle.tia_core.specs.Private.StretchPixels.{stretch_pixels}
use Rattle.tia_core.proofs.masks.Masks.paint_fresh.Given as goal

abbrev pub invariant-loop-x : goal.invariant-loop-x
invariant-loop-x g l = record {
  order : l.x ≤ l.to;
  sink : sink_after_pixels g.S.Paint.drawn l.sink (stretch_pixels l.tia l.line l.x (l.to - l.x))
      ≡ sink_after_pixels g.S.Paint.drawn l.fn.sink (stretch_pixels l.tia l.line l.from (l.to - l.from));
}

abbrev pub decreases-loop-x : goal.decreases-loop-x
decreases-loop-x g l = l.to - l.x
