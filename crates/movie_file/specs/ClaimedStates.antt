-- Checkpoints of a run, added frame by frame. This project's own.
use Rattle.std.specs.Prelude.{◌≡◌, ℕ, ◌+◌, ◌*◌, ◌/◌, ◌%◌, List, [], ◌∷◌, length, Some, slice_get}
use Rattle.std.specs.Prelude.{◌==◌, if◌then◌else◌}
use Rattle.movie_machine.specs.declared.state.State.{State}
use Rattle.movie_file.specs.declared.checkpoint.Checkpoint.{Checkpoint}
use Rattle.movie_file.specs.Movie.{MovieData, IsStateOf}
use Rattle.movie_file.specs.Run.{run}

-- the checkpoint after a frame, if the frame's number is a multiple
abbrev pub checkpoint_if : ℕ → ℕ → State → List Checkpoint
checkpoint_if every frame state = if frame % every == 0 then record { frame = frame; state = state } ∷ [] else []

-- these are the checkpoints at the multiples up to k of the frames of the run after frame `from`
pub record Claims (m : MovieData) (from every k : ℕ) (made : List Checkpoint) : Type 0 where
  pub count : length made ≡ k / every
  pub places : (j : ℕ) (c : Checkpoint) → slice_get made j ≡ Some c → c.frame ≡ every * (j + 1)
  pub states : (j : ℕ) (c : Checkpoint) → slice_get made j ≡ Some c → run m m.start 0 (from + c.frame) ≡ Some c.state
  pub lawful : (j : ℕ) (c : Checkpoint) → slice_get made j ≡ Some c → IsStateOf m.cartridge c.state
