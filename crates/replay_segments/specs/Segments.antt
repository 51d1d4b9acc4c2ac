-- The segments of a movie between its cuts, each replayed from the state that its first cut claims.
-- This project's own.
use Rattle.std.specs.Prelude.{ℕ, zero, suc, ◌+◌, ◌-◌, ◌≡◌, List, length, Option, Some, None}
use Rattle.std.specs.Prelude.{slice_get}
use Rattle.movie_machine.specs.declared.state.State.{State}
use Rattle.movie_file.specs.Movie.{MovieData}
use Rattle.movie_file.specs.declared.checkpoint.Checkpoint.{Checkpoint}
use Rattle.replay_plan.specs.declared.keep.Keep.{Keep}
use Rattle.replay_segments.specs.declared.verdict.Verdict.{Verdict}
use Rattle.replay_segments.specs.Verdicts.{IsJudged}

-- The checkpoint of a cut, whose number is counted from 1.
abbrev pub checkpoint_at : MovieData → Option ℕ → Option Checkpoint
checkpoint_at m None = None
checkpoint_at m (Some number) = slice_get m.checkpoints (number - 1)

abbrev pub frame_or : ℕ → Option Checkpoint → ℕ
frame_or other None = other
frame_or other (Some c) = c.frame

abbrev pub state_or : State → Option Checkpoint → State
state_or other None = other
state_or other (Some c) = c.state

-- The last frame of a segment: that of its cut, or the movie's last one. Segments and cuts are
-- counted from 0.
abbrev pub end_of : MovieData → List ℕ → ℕ → ℕ
end_of m cuts i = frame_or (length m.inputs) (checkpoint_at m (slice_get cuts i))

-- The last frame before a segment.
abbrev pub from_of : MovieData → List ℕ → ℕ → ℕ
from_of m cuts zero = 0
from_of m cuts (suc i) = end_of m cuts i

-- The state from which a segment is replayed: the movie's start, or the claimed one.
abbrev pub start_of : MovieData → List ℕ → ℕ → State
start_of m cuts zero = m.start
start_of m cuts (suc i) = state_or m.start (checkpoint_at m (slice_get cuts i))

-- What is said of a segment, by the rule of a whole movie: it passed if that says genuine.
abbrev pub IsSegment : MovieData → List ℕ → Keep → ℕ → Verdict → Type 0
IsSegment m cuts keep i verdict =
    (len : ℕ) × (from_of m cuts i + len ≡ end_of m cuts i)
    × IsJudged m keep (start_of m cuts i) (from_of m cuts i) len verdict
