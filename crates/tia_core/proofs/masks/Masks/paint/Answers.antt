use Rattle.std.proofs.Common.{◌-◌, ◌∙◌, sym}
use Rattle.tia_core.specs.Objects.{objects_at}
use Rattle.tia_core.specs.Private.StretchPixels.{stretch_pixels}
use Rattle.tia_core.proofs.RunLemmas.{colour-dark, stretch-one}
use Rattle.tia_core.proofs.Stretches.{painted-nothing}
use Rattle.tia_core.proofs.masks.Masks.paint.Goals as goal

pub returns-else-keeps-clause-sink : goal.returns-else-keeps-clause-sink
returns-else-keeps-clause-sink g c =
    sym (painted-nothing g.S.Paint.drawn c.args.sink.now
    (stretch_pixels c.args.tia.now c.args.line c.args.from (c.args.to - c.args.from))
    (c.keeps.ensures c.if-keeps.false))

pub returns-then-is_dark-clause-sink : goal.returns-then-is_dark-clause-sink
returns-then-is_dark-clause-sink g c =
    let t = c.args.tia.now in
    c.put_run.ensures ∙ stretch-one g.S.Paint.drawn c.args.sink.now t c.args.line c.args.from
    (c.args.to - c.args.from) 0
    (λ y le lt. colour-dark t (objects_at t y) y (sym c.is_dark.ensures ∙ c.if-is_dark.true))
