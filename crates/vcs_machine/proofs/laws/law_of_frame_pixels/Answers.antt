use Rattle.vcs_machine.proofs.PixelLaws.{frame-inside, frame-places}
use Rattle.vcs_machine.proofs.laws.law_of_frame_pixels.Goals as goal

pub returns : goal.returns
returns c = record { places = frame-places; inside = frame-inside }
