use Rattle.mos_cpu.proofs.AccessLemmas.{accesses_of-most}
use Rattle.mos_cpu.proofs.laws.law_of_accesses.Goals as goal

pub returns : goal.returns
returns c = λ i r cycles. accesses_of-most i r cycles
