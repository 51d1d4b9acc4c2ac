use Rattle.tia_chip.proofs.PulseClocks.{four-clocks, last-four, pulses-both}
use Rattle.tia_chip.proofs.PulseLemmas.{all-pulses, player-pulse, player-pulses}
use Rattle.tia_chip.proofs.laws.law_of_pulses.Goals as goal

pub returns : goal.returns
returns c = record { pulse = player-pulse; steps = player-pulses; four_clocks = four-clocks; last_four = last-four; players = pulses-both; all = all-pulses }
