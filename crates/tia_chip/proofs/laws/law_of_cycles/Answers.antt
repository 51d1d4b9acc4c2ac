use Rattle.tia_chip.proofs.AtRestLemmas.{cycle-is, left-settled, read-at_rest, read-kept, write-at_rest}
use Rattle.tia_chip.proofs.AtRestLemmas.{write-clock, write-hmove}
use Rattle.tia_chip.proofs.laws.law_of_cycles.Goals as goal

pub returns : goal.returns
returns c = record {
  cycle = cycle-is;
  hmove = write-hmove;
  clock = write-clock;
  read = read-kept;
  written_at_rest = write-at_rest;
  read_at_rest = read-at_rest;
  left = left-settled;
}
