use Rattle.std.proofs.Common.{arith}
use Rattle.vcs_machine.proofs.FrameOutcomes.{stop-way}
use Rattle.vcs_machine.proofs.laws.law_of_frame_lengths.Goals as goal

pub returns : goal.returns
returns c = grind (arith, stop-way)
