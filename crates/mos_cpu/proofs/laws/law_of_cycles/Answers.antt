use Rattle.mos_cpu.proofs.StepLaws.{step_of-least, step_of-most}
use Rattle.mos_cpu.proofs.laws.law_of_cycles.Goals as goal

pub returns-clause-least : goal.returns-clause-least
returns-clause-least g c = λ m r s. step_of-least m r s

pub returns-clause-most : goal.returns-clause-most
returns-clause-most g c = λ m r s. step_of-most m r s
