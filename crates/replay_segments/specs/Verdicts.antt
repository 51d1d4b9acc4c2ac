-- The verdict of a movie, by cases. This project's own.
use Rattle.std.specs.Prelude.{ℕ, ◌+◌, ◌<◌, ◌≡◌, length}
use Rattle.movie_machine.specs.declared.state.State.{State}
use Rattle.movie_file.specs.Movie.{MovieData}
use Rattle.movie_file.specs.Judgement.{AllSound, FaultsAt, IsFalseAt}
use Rattle.replay_plan.specs.declared.keep.Keep.{Keep}
use Rattle.replay_segments.specs.declared.verdict.Verdict.{Verdict}
use Rattle.replay_segments.specs.declared.verdict.Verdict.TheVariants.{Genuine, FalseCheckpoint}
use Rattle.replay_segments.specs.declared.verdict.Verdict.TheVariants.{Fault}
use Rattle.replay_segments.specs.KeptPictures.{pictures}

-- What is said of `len` frames from a state that stands after frame `from`. It is of the least
-- frame that faults, or after which a checkpoint claims another state; of one that does both the
-- fault, since a frame that faults has no state after it. If there is no such frame they are
-- genuine, with the kept pictures.
abbrev pub IsJudged : MovieData → Keep → State → ℕ → ℕ → Verdict → Type 0
IsJudged m keep start from len (Genuine kept) =
    AllSound m start from len × (kept ≡ pictures m keep start from len)
IsJudged m keep start from len (FalseCheckpoint number frame) =
    (k : ℕ) × (k < len) × (frame ≡ from + k + 1) × AllSound m start from k × IsFalseAt m start from k number
IsJudged m keep start from len (Fault frame kind) =
    (k : ℕ) × (k < len) × (frame ≡ from + k + 1) × AllSound m start from k × FaultsAt m start from k kind

-- The verdict of the movie's one unbroken run, from its start state to its last frame.
abbrev pub IsVerdict : MovieData → Keep → Verdict → Type 0
IsVerdict m keep verdict = IsJudged m keep m.start 0 (length m.inputs) verdict

-- The same, whichever frames are kept.
abbrev pub HasVerdict : MovieData → Verdict → Type 0
HasVerdict m verdict = (keep : Keep) × IsVerdict m keep verdict
