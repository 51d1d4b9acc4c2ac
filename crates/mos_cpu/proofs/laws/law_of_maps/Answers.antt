use Rattle.mos_cpu.proofs.AlongMaps.{step_of-along}
use Rattle.mos_cpu.proofs.laws.law_of_maps.Goals as goal

pub returns : goal.returns
returns g c = λ m n h keeps r s. step_of-along m n h keeps r s
