-- The frames of a movie that a command asks for: `count` of them from frame `first` on, counted from
-- 1, as many as the movie has. This project's own.
use Rattle.std.specs.Prelude.{◌≡◌, ℕ, zero, suc, ◌+◌, ◌-◌, List, [], ◌++◌, length, take, drop, Some, ◌==◌, if◌then◌else◌}
use Rattle.vcs_machine.specs.Inputs.{InputData}
use Rattle.vcs_machine.specs.Pictures.{Rows}
use Rattle.movie_machine.specs.declared.state.State.{State}
use Rattle.movie_file.specs.Movie.{MovieData}
use Rattle.movie_file.specs.Run.{run}
use Rattle.replay_segments.specs.KeptPictures.{picture_after}

-- their inputs,
abbrev pub inputs_asked : MovieData → ℕ → ℕ → List InputData
inputs_asked m first count = take count (drop (first - 1) m.inputs)

-- how many they are,
abbrev pub frames_asked : MovieData → ℕ → ℕ → ℕ
frames_asked m first count = length (inputs_asked m first count)

-- and the last of them, up to which the movie is run: no frame if none is asked for
abbrev pub last_asked : MovieData → ℕ → ℕ → ℕ
last_asked m first count = if frames_asked m first count == 0 then 0 else first - 1 + frames_asked m first count

-- The first `frames` frames of the movie's one unbroken run end.
abbrev pub Ends : MovieData → ℕ → Type 0
Ends m frames = (state : State) × (run m m.start 0 frames ≡ Some state)

-- What comes of the `len` frames that follow frame `from`, in order, if this comes of frame k + 1.
abbrev pub from_frames : {X : Type 0} → (ℕ → List X) → ℕ → ℕ → List X
from_frames what from zero = []
from_frames what from (suc k) = from_frames what from k ++ what (from + k)

-- Their pictures, up to a fault.
abbrev pub pictures_after : MovieData → ℕ → ℕ → List Rows
pictures_after m from len = from_frames (λ k. picture_after m k (run m m.start 0 k)) from len
