-- What is said of the frames of a run: that they are sound, that one faults, or that a checkpoint
-- is false. Checkpoints are found by look-ups, so that no definition needs their order. This
-- project's own.
use Rattle.std.specs.Prelude.{◌≡◌, ◌≢◌, ℕ, ◌+◌, ◌<◌, length, Option, Some, slice_get}
use Rattle.movie_machine.specs.Outcomes.{Failed, Left}
use Rattle.movie_machine.specs.declared.state.State.{State}
use Rattle.vcs_machine.specs.declared.fault.FaultKind.{FaultKind}
use Rattle.movie_file.specs.declared.checkpoint.Checkpoint.{Checkpoint}
use Rattle.movie_file.specs.Movie.{MovieData}
use Rattle.movie_file.specs.Run.{frame_after, run}

-- frame k + 1 of the run ends, and each checkpoint after it claims the state of the run
abbrev pub IsSound : MovieData → State → ℕ → ℕ → Type 0
IsSound m start from k =
    (state : State) × (run m start from (k + 1) ≡ Some state)
    × ((j : ℕ) (c : Checkpoint) → slice_get m.checkpoints j ≡ Some c → c.frame ≡ from + k + 1 → c.state ≡ state)

-- the first k frames of the run are sound
abbrev pub AllSound : MovieData → State → ℕ → ℕ → Type 0
AllSound m start from k = (i : ℕ) → i < k → IsSound m start from i

-- frame k + 1 of the run faults
abbrev pub FaultsAt : MovieData → State → ℕ → ℕ → FaultKind → Type 0
FaultsAt m start from k kind =
    (state : State) × (left : Option Left) × (run m start from k ≡ Some state)
    × (frame_after m (from + k) state ≡ Some (Failed kind left))

-- the checkpoint of this number, from 1, stands after frame k + 1 of the run and claims another
-- state
abbrev pub IsFalseAt : MovieData → State → ℕ → ℕ → ℕ → Type 0
IsFalseAt m start from k number =
    (state : State) × (j : ℕ) × (c : Checkpoint) × (run m start from (k + 1) ≡ Some state)
    × (number ≡ j + 1) × (slice_get m.checkpoints j ≡ Some c) × (c.frame ≡ from + k + 1) × (c.state ≢ state)

-- every frame of the movie's one unbroken run is sound
abbrev pub IsGenuine : MovieData → Type 0
IsGenuine m = AllSound m m.start 0 (length m.inputs)
