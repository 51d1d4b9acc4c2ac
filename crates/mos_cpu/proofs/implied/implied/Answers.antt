use Rattle.std.proofs.Common.{rules}
use Rattle.mos_cpu.proofs.OpcodeRunLemmas.{step_of-implied}
use Rattle.mos_cpu.proofs.implied.implied.Goals as goal

pub returns : goal.returns
returns g c =
    rw (step_of-implied g.B.Bus.meaning c.args.cpu.now (g.B.Bus.state c.args.bus.now) _ g.met.O.ImpliedOperation.implied c.requires) (search rules)
