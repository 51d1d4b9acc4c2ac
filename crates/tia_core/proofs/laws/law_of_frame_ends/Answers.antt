use Rattle.tia_core.proofs.FrameEnd.{frame_end-vsync}
use Rattle.tia_core.proofs.laws.law_of_frame_ends.Goals as goal

pub returns : goal.returns
returns c t fire0 fire1 r v = frame_end-vsync t fire0 fire1 r v
