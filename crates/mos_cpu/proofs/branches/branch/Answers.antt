use Rattle.std.proofs.Common.{rules}
use Rattle.mos_cpu.proofs.OpcodeRunLemmas.{step_of-taken, step_of-straight}
use Rattle.mos_cpu.proofs.branches.branch.Goals as goal

pub returns-then-not-is_taken : goal.returns-then-not-is_taken
returns-then-not-is_taken g c =
    rw (step_of-straight g.B.Bus.meaning c.args.cpu.now (g.B.Bus.state c.args.bus.now) _ c.args.low
    g.met.O.Conditional.goes c.requires.row c.requires.low (search rules)) (search rules)

pub returns-then-target : goal.returns-then-target
returns-then-target g c =
    rw (step_of-taken g.B.Bus.meaning c.args.cpu.now (g.B.Bus.state c.args.bus.now) _ c.args.low c.branch_by-target.result 4
    (search rules) g.met.O.Conditional.goes c.requires.row c.requires.low (search rules) (search rules)) (search rules)

pub returns-else-target : goal.returns-else-target
returns-else-target g c =
    rw (step_of-taken g.B.Bus.meaning c.args.cpu.now (g.B.Bus.state c.args.bus.now) _ c.args.low c.branch_by-target.result 3
    (search rules) g.met.O.Conditional.goes c.requires.row c.requires.low (search rules) (search rules)) (search rules)
