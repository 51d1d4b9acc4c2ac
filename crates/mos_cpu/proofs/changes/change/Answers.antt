use Rattle.std.proofs.Common.{rules, ◌+◌}
use Rattle.mos_cpu.proofs.OpcodeRunLemmas.{step_of-change}
use Rattle.mos_cpu.proofs.changes.change.Goals as goal

pub returns : goal.returns
returns g c =
    rw (step_of-change _ _ _ _ _ (c.CYCLES.result + c.from.result) _ g.met.O.Changer.changes (search rules) c.in_ok-target.ensures)
    (search rules)
