use Rattle.std.proofs.Common.{arith, ◌∙◌}
use Rattle.mos_cpu.proofs.SumLemmas.{binary_sbc_adc}
use Rattle.mos_cpu.proofs.sums.binary_sbc.Goals as goal

pub returns-clause-result : goal.returns-clause-result
returns-clause-result c = c.binary_adc.ensures.result ∙ binary_sbc_adc c.args.a c.args.m c.args.status.now (omega arith) (omega arith)
