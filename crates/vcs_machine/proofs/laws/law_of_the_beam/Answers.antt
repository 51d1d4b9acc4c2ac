use Rattle.vcs_machine.proofs.CycleLaws.{beam-clock, frame-meets, frame-place}
use Rattle.vcs_machine.proofs.laws.law_of_the_beam.Goals as goal

pub returns : goal.returns
returns g c = record { clock = beam-clock; frame = frame-place; accesses = frame-meets }
