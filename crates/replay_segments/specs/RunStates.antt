-- What a frame of the one unbroken run of a movie leaves. This project's own.
use Rattle.std.specs.Prelude.{ℕ, ◌+◌, ◌-◌, ◌/◌, Option, Some, None, option_and_then}
use Rattle.std.specs.Option.{option_map}
use Rattle.movie_machine.specs.Outcomes.{Failed, FrameOutcome, Left, Played}
use Rattle.movie_machine.specs.States.{line_cycle_of}
use Rattle.movie_machine.specs.declared.state.State.{State}
use Rattle.movie_file.specs.Movie.{MovieData}
use Rattle.movie_file.specs.Run.{frame_after, run}
use Rattle.replay_segments.specs.declared.run_states.LeftState.{LeftState}

-- What a frame leaves that fails, from a state: the state in which it stops, and the scanline of the beam
-- there, counted from the one in which it began. A scanline has 76 cycles. The chip's rules say none.
abbrev pub left_of : State → Left → LeftState
left_of before left = record { state = left.state; scanline = (line_cycle_of before + left.cycles) / 76 }

abbrev pub left_by : State → Option FrameOutcome → Option LeftState
left_by before (Some (Failed kind left)) = option_map (λ l. left_of before l) left
left_by before (Some (Played after picture cycles)) = None
left_by before None = None

-- What the frame of this number, from 1, of the run leaves, if the run comes to it and it fails.
abbrev pub left_at : MovieData → ℕ → Option LeftState
left_at m frame = option_and_then (λ state. left_by state (frame_after m (frame - 1) state)) (run m m.start 0 (frame - 1))
