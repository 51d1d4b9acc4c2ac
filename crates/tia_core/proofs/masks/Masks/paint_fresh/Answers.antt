use Rattle.std.proofs.Common.{◌∙◌, arith}
use Rattle.tia_core.proofs.RunLemmas.{colour-same, same_side, stretch-run-to}
use Rattle.tia_core.proofs.masks.Masks.paint_fresh.Goals as goal

pub loop-x-preserved : goal.loop-x-preserved
loop-x-preserved g c =
    let t = c.args.tia.now in
    let x = c.loop-x.x in
    let end = c.run_end-end.result in
    let run = c.run_end-end.ensures in
    record {
      order = run.range;
      sink = rw c.put_run.ensures
          (stretch-run-to g.S.Paint.drawn c.loop-x.sink t c.args.line x end c.args.to c.colour_at.result (omega (arith, run.after)) run.range
          (λ y le lt.
          rw (← c.requires.shown y (omega (arith, run.range, c.requires.range)), run.same y le lt, ← c.objects.ensures, c.colour_at.ensures)
          (colour-same t c.objects.result x y (same_side x y 8 end le lt run.comb) (same_side x y 80 end le lt run.half)))
          ∙ c.loop-x.invariant.sink);
    }
