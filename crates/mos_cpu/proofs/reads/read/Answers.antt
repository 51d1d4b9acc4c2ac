use Rattle.std.proofs.Common.{rules, ◌+◌}
use Rattle.mos_cpu.proofs.OpcodeRunLemmas.{step_of-read}
use Rattle.mos_cpu.proofs.reads.read.Goals as goal

pub returns : goal.returns
returns g c =
    rw (step_of-read _ _ _ _ _ _ _ _ (c.CYCLES.result + c.from.result) g.met.O.Reader.reads c.requires.row c.in_ok-address.ensures (search rules))
    (search rules)
