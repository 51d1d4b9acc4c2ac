-- After which frame of its run a movie is in a claimed state, wherever that is claimed. This project's own.
use Rattle.std.specs.Prelude.{ℕ, Bool, false, List, [], Option, Some, None, codes, find, length}
use Rattle.std.specs.List.{range_with_len}
use Rattle.std.specs.Str.{bytes_eq}
use Rattle.movie_machine.specs.declared.cart.Cart.{Cart}
use Rattle.movie_machine.specs.declared.state.State.{State}
use Rattle.movie_file.specs.Movie.{MovieData}
use Rattle.movie_file.specs.Record.{record_in}
use Rattle.movie_file.specs.Run.{run}
use Rattle.movie_file.specs.declared.checkpoint.Checkpoint.{Checkpoint}
use Rattle.replay_plan.specs.declared.notation.Notation.{Notation}
use Rattle.movie_report.specs.Notations.{number_fact}

-- Whether this is the state that a run with a cartridge has, if it has one: their records are the same.
abbrev pub is_state : Cart → State → Option State → Bool
is_state cartridge state None = false
is_state cartridge state (Some found) = bytes_eq (record_in cartridge state) (record_in cartridge found)

-- The first frame after which a movie's one unbroken run is in a state.
abbrev pub first_frame_in : MovieData → State → Option ℕ
first_frame_in m state = find (λ frame. is_state m.cartridge state (run m m.start 0 frame)) (range_with_len 1 (length m.inputs))

-- The same as a fact, if there is such a frame.
abbrev pub frame_fact : Notation → Option ℕ → List ℕ
frame_fact notation None = []
frame_fact notation (Some frame) = number_fact notation (codes "claimed_state_after") (codes "claimed state: the run's after frame ") frame []

-- That of a claim, if there is one.
abbrev pub place_text : Notation → MovieData → Option Checkpoint → List ℕ
place_text notation m None = []
place_text notation m (Some c) = frame_fact notation (first_frame_in m c.state)
