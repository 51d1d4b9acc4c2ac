use Rattle.riot_map.proofs.RiotLemmas.{IsRiot-power_on, IsRiot-cycles, IsRiot-read}
use Rattle.riot_map.proofs.RiotNumbers.{IsRiot-riot_of}
use Rattle.riot_map.proofs.RiotLemmas.{IsRiot-write, IsRiot-ram, IsRiot-pins}
use Rattle.riot_map.proofs.laws.law_of_lawful_riots.Goals as goal

pub returns : goal.returns
returns c = record {
  power_on = IsRiot-power_on;
  fields = IsRiot-riot_of;
  cycles = IsRiot-cycles;
  read = IsRiot-read;
  write = IsRiot-write;
  ram = IsRiot-ram;
  pins = IsRiot-pins;
}
