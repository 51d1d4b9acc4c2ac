use Rattle.mos_cpu.proofs.OpcodeLemmas.{regular-operation, regular-mode}
use Rattle.mos_cpu.proofs.laws.law_of_regular_opcodes.Goals as goal

pub returns-clause-operation : goal.returns-clause-operation
returns-clause-operation c = λ opcode small one other. regular-operation opcode small one other

pub returns-clause-mode : goal.returns-clause-mode
returns-clause-mode c = λ opcode small one other. regular-mode opcode small one other
