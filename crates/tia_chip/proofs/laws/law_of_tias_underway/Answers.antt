use Rattle.tia_chip.proofs.UnderwayLaws.{underway-clock, underway-fire, underway-frame, underway-power_on}
use Rattle.tia_chip.proofs.UnderwayLaws.{underway-read, underway-write}
use Rattle.tia_chip.proofs.UnderwayTables.{record-underway, underway-record}
use Rattle.tia_chip.proofs.laws.law_of_tias_underway.Goals as goal

pub returns : goal.returns
returns c = record {
  power_on = underway-power_on;
  from_record = underway-record;
  clock = underway-clock;
  write = underway-write;
  read = underway-read;
  fire = underway-fire;
  frame = underway-frame;
  to_record = record-underway;
}
