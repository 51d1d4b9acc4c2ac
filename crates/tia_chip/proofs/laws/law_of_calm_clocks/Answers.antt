use Rattle.tia_chip.proofs.CalmBlank.{clock-blank, clock-blank_end, clock-latches_none, clocks-blank, clocks-blank_end}
use Rattle.tia_chip.proofs.CalmChanged.{clock-changed}
use Rattle.tia_chip.proofs.CalmClocks.{clocks-line, clocks-picture, clocks-pixel}
use Rattle.tia_chip.proofs.CalmPairs.{clock-pairs}
use Rattle.tia_chip.proofs.laws.law_of_calm_clocks.Goals as goal

pub returns : goal.returns
returns c = record {
  picture = clocks-picture;
  line = clocks-line;
  pixel = clocks-pixel;
  blank = clocks-blank;
  leaves_blank = clocks-blank_end;
  pulse = clock-blank;
  last_pulse = clock-blank_end;
  latch = clock-latches_none;
  changed = clock-changed;
  pairs = clock-pairs;
}
