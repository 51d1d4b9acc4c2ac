use Rattle.std.proofs.Common.{length}
use Rattle.movie_file.proofs.CheckpointLemmas.{checkpoint_in_range, checkpoints_rise}
use Rattle.movie_file.proofs.laws.law_of_checkpoints.Goals as goal

pub returns : goal.returns
returns c = record {
  range = λ m j d h e. checkpoint_in_range m.cartridge m.checkpoints 0 (length m.inputs) j d h.checkpoints e;
  rising = λ m i j b d h lt e f. checkpoints_rise m.cartridge m.checkpoints 0 (length m.inputs) i j b d h.checkpoints lt e f;
}
