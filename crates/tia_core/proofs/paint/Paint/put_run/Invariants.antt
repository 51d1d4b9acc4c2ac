use Rattle.std.proofs.Common.{◌≡◌, ◌-◌}
use Rattle.tia_core.specs.Runs.{run_drawn}
use Rattle.tia_core.proofs.paint.Paint.put_run.Given as goal

abbrev pub invariant-loop-x : goal.invariant-loop-x
invariant-loop-x g l = run_drawn g.Self.Paint.drawn l.self l.line l.x (l.to - l.x) l.colour
    ≡ run_drawn g.Self.Paint.drawn l.fn.self l.line l.from (l.to - l.from) l.colour
