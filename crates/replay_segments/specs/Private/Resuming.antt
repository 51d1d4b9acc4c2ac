-- From where the one unbroken run of a movie can be replayed. This project's own.
use Rattle.std.specs.Prelude.{ℕ, ◌-◌, ◌<◌, ◌≤◌, ◌≡◌, length, IsSome, Some, slice_get}
use Rattle.movie_file.specs.Movie.{MovieData}
use Rattle.movie_file.specs.Run.{run}
use Rattle.movie_file.specs.declared.checkpoint.Checkpoint.{Checkpoint}

-- The run has a state after a frame, and the checkpoint before index `next`, if there is one, is
-- not after that frame and claims the run's state.
pub record IsResumable (m : MovieData) (next frame : ℕ) : Type 0 where
  pub within : next ≤ length m.checkpoints
  pub last : frame ≤ length m.inputs
  pub ends : IsSome (run m m.start 0 frame)
  pub claim : (c : Checkpoint) → 0 < next → slice_get m.checkpoints (next - 1) ≡ Some c
      → (c.frame ≤ frame) × (run m m.start 0 c.frame ≡ Some c.state)
