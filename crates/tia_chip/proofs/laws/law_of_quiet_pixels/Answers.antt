use Rattle.tia_chip.proofs.QuietPixels.{after-ball, after-missile0, after-missile1, after-player0, after-player1}
use Rattle.tia_chip.proofs.QuietPixels.{pixel-ball, pixel-missile0, pixel-missile1, pixel-player0, pixel-player1}
use Rattle.tia_chip.proofs.laws.law_of_quiet_pixels.Goals as goal

pub returns : goal.returns
returns c = record {
  player0 = pixel-player0;
  player1 = pixel-player1;
  missile0 = pixel-missile0;
  missile1 = pixel-missile1;
  ball = pixel-ball;
  after_player0 = after-player0;
  after_player1 = after-player1;
  after_missile0 = after-missile0;
  after_missile1 = after-missile1;
  after_ball = after-ball;
}
