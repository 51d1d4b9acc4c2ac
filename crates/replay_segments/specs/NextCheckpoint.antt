-- The checkpoint that comes next, frame by frame. This project's own.
use Rattle.std.specs.Prelude.{ℕ, ◌<◌, ◌≤◌, ◌≡◌, length, Some, slice_get}
use Rattle.movie_file.specs.Movie.{MovieData}
use Rattle.movie_file.specs.declared.checkpoint.Checkpoint.{Checkpoint}

-- The checkpoints before index `next` stand before a frame.
pub record StandBefore (m : MovieData) (next frame : ℕ) : Type 0 where
  pub within : next ≤ length m.checkpoints
  pub before : (j : ℕ) (c : Checkpoint) → slice_get m.checkpoints j ≡ Some c → j < next → c.frame < frame

-- They do, and no other does.
pub record IsNext (m : MovieData) (next frame : ℕ) : Type 0 where
  pub within : next ≤ length m.checkpoints
  pub before : (j : ℕ) (c : Checkpoint) → slice_get m.checkpoints j ≡ Some c → j < next → c.frame < frame
  pub after : (j : ℕ) (c : Checkpoint) → slice_get m.checkpoints j ≡ Some c → next ≤ j → frame ≤ c.frame
