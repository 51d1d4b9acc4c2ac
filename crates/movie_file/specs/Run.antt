-- The run of a movie: one frame after another, from one state. This project's own.
use Rattle.std.specs.Prelude.{ℕ, zero, suc, ◌+◌, List, [], ◌∷◌, Option, Some, None, slice_get}
use Rattle.std.specs.Prelude.{option_and_then}
use Rattle.movie_machine.specs.Outcomes.{FrameOutcome, Played, Failed, frame_of}
use Rattle.movie_machine.specs.declared.state.State.{State}
use Rattle.vcs_machine.specs.Pictures.{Rows}
use Rattle.movie_file.specs.Movie.{MovieData}

-- what frame k + 1 of a movie does to a state, if the movie has that frame and the state is by its
-- rules
abbrev pub frame_after : MovieData → ℕ → State → Option FrameOutcome
frame_after m k state = option_and_then (λ input. frame_of m.cartridge state input) (slice_get m.inputs k)

-- the state after a frame that ended
abbrev pub state_after : Option FrameOutcome → Option State
state_after (Some (Played state picture cycles)) = Some state
state_after (Some (Failed kind left)) = None
state_after None = None

-- its picture
abbrev pub pictures_of : Option FrameOutcome → List Rows
pictures_of (Some (Played state picture cycles)) = picture ∷ []
pictures_of (Some (Failed kind left)) = []
pictures_of None = []

-- The run from a state that stands after frame `from`: the state after k more frames, or none if
-- one of them failed. From the movie's start, with from = 0, it is the movie's one unbroken run.
abbrev pub run : MovieData → State → ℕ → ℕ → Option State
run m start from zero = Some start
run m start from (suc k) = option_and_then (λ state. state_after (frame_after m (from + k) state)) (run m start from k)
