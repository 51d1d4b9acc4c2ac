use Rattle.std.proofs.Common.{rules}
use Rattle.mos_cpu.proofs.OpcodeRunLemmas.{step_of-value}
use Rattle.mos_cpu.proofs.reads.value.Goals as goal

pub returns : goal.returns
returns g c =
    rw (step_of-value g.B.Bus.meaning c.args.cpu.now (g.B.Bus.state c.args.bus.now) _ _ g.met.O.Reader.reads c.requires.row c.requires.low)
    (search rules)
