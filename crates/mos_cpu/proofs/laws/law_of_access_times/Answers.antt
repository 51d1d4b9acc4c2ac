use Rattle.mos_cpu.proofs.StepLaws.{decoded-keeps}
use Rattle.mos_cpu.proofs.laws.law_of_access_times.Goals as goal

pub returns : goal.returns
returns g c m r s = decoded-keeps m r s
