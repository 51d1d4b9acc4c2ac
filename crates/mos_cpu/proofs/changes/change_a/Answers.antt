use Rattle.std.proofs.Common.{rules}
use Rattle.mos_cpu.proofs.OpcodeRunLemmas.{step_of-change_a}
use Rattle.mos_cpu.proofs.changes.change_a.Goals as goal

pub returns : goal.returns
returns g c = rw (step_of-change_a g.B.Bus.meaning c.args.cpu.now (g.B.Bus.state c.args.bus.now) _ g.met.O.Changer.changes c.requires) (search rules)
