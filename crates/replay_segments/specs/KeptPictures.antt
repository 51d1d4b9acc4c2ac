-- The pictures of a run. This project's own.
use Rattle.std.specs.Prelude.{ℕ, zero, suc, ◌+◌, List, [], ◌++◌, Option, Some, None, if◌then◌else◌}
use Rattle.vcs_machine.specs.Pictures.{Rows}
use Rattle.movie_machine.specs.declared.state.State.{State}
use Rattle.movie_file.specs.Movie.{MovieData}
use Rattle.movie_file.specs.Run.{frame_after, pictures_of, run}
use Rattle.replay_plan.specs.declared.keep.Keep.{Keep}
use Rattle.replay_plan.specs.Keeping.{is_kept}

-- The picture of frame k + 1 of a movie, from a state, if it ends.
abbrev pub picture_after : MovieData → ℕ → Option State → List Rows
picture_after m k None = []
picture_after m k (Some state) = pictures_of (frame_after m k state)

-- The kept pictures of the first k frames of the run from a state that stands after frame `from`,
-- in order.
abbrev pub pictures : MovieData → Keep → State → ℕ → ℕ → List Rows
pictures m keep start from zero = []
pictures m keep start from (suc k) =
    pictures m keep start from k
    ++ (if is_kept keep (from + k + 1) then picture_after m (from + k) (run m start from k) else [])
