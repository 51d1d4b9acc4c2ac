use Rattle.mos_cpu.proofs.DecimalLemmas.{adc-digits, adc-digits-carry, sbc-digits, sbc-digits-carry}
use Rattle.mos_cpu.proofs.laws.law_of_decimal.Goals as goal

pub returns-clause-sum : goal.returns-clause-sum
returns-clause-sum c = λ a m p ha hm decimal. adc-digits a m p ha hm decimal

pub returns-clause-sum_carry : goal.returns-clause-sum_carry
returns-clause-sum_carry c = λ a m p ha hm decimal. adc-digits-carry a m p ha hm decimal

pub returns-clause-difference : goal.returns-clause-difference
returns-clause-difference c = λ a m p ha hm decimal. sbc-digits a m p ha hm decimal

pub returns-clause-difference_carry : goal.returns-clause-difference_carry
returns-clause-difference_carry c = λ a m p ha hm decimal. sbc-digits-carry a m p ha hm
