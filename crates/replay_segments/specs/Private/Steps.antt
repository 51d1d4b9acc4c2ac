-- What replaying a frame answers, and how far a replay has come. This project's own.
use Rattle.std.specs.Prelude.{ℕ, ◌+◌, ◌≡◌, ◌≢◌, List, Option, Some, None, Result}
use Rattle.std.specs.Prelude.{Ok, Err, Bool, true, slice_get, [], ◌∷◌, ◌++◌, if◌then◌else◌}
use Rattle.movie_machine.specs.Outcomes.{Played, Failed, Left}
use Rattle.movie_machine.specs.declared.state.State.{State}
use Rattle.refused.specs.declared.Refused.{Refused}
use Rattle.refused.specs.declared.Refused.TheVariants.{NoMemory, Of}
use Rattle.vcs_machine.specs.Pictures.{Rows}
use Rattle.vcs_machine.specs.declared.fault.FaultKind.{FaultKind}
use Rattle.movie_file.specs.Movie.{MovieData}
use Rattle.movie_file.specs.Judgement.{AllSound}
use Rattle.movie_file.specs.Run.{frame_after, run}
use Rattle.movie_file.specs.declared.checkpoint.Checkpoint.{Checkpoint}
use Rattle.replay_plan.specs.Keeping.{is_kept}
use Rattle.replay_segments.specs.KeptPictures.{pictures}
use Rattle.replay_segments.specs.NextCheckpoint.{IsNext}
use Rattle.replay_plan.specs.declared.keep.Keep.{Keep}
use Rattle.replay_segments.specs.declared.judge.Claim.{Claim}
use Rattle.replay_segments.specs.declared.judge.Claim.TheVariants.{Holds, False}

-- What replaying frame k + 1 answers, which leaves a state.
abbrev pub IsFrameStep : MovieData → ℕ → State → Bool → State → Result (Option Rows) (Refused FaultKind) → Type 0
IsFrameStep m k old keep new (Ok picture) =
    (rows : Rows) × (cycles : ℕ) × (frame_after m k old ≡ Some (Played new rows cycles)) × (picture ≡ (if keep then Some rows else None))
IsFrameStep m k old keep new (Err (Of kind)) = (left : Option Left) × (frame_after m k old ≡ Some (Failed kind left))
IsFrameStep m k old keep new (Err NoMemory) = keep ≡ true

-- The same, if a kept picture goes to the end of a list.
abbrev pub IsAdvance : MovieData → Keep → ℕ → State → List Rows → State → List Rows → Result (Unit {0}) (Refused FaultKind) → Type 0
IsAdvance m keep before old olds new news (Ok _) =
    (rows : Rows) × (cycles : ℕ) × (frame_after m before old ≡ Some (Played new rows cycles))
    × (news ≡ olds ++ (if is_kept keep (before + 1) then rows ∷ [] else []))
IsAdvance m keep before old olds new news (Err (Of kind)) =
    (left : Option Left) × (frame_after m before old ≡ Some (Failed kind left))
IsAdvance m keep before old olds new news (Err NoMemory) = is_kept keep (before + 1) ≡ true

-- Each checkpoint after a frame claims this state.
abbrev pub ClaimsHold : MovieData → ℕ → State → Type 0
ClaimsHold m frame state = (j : ℕ) (c : Checkpoint) → slice_get m.checkpoints j ≡ Some c → c.frame ≡ frame → c.state ≡ state

-- What a comparison answers: the first checkpoint after the frame, or that the one there is false.
abbrev pub IsClaim : MovieData → ℕ → ℕ → State → Claim → Type 0
IsClaim m next frame state (Holds after) = IsNext m after (frame + 1) × ClaimsHold m frame state
IsClaim m next frame state (False number) =
    (number ≡ next + 1) × (c : Checkpoint) × (slice_get m.checkpoints next ≡ Some c) × (c.frame ≡ frame) × (c.state ≢ state)

-- k frames from a state were sound, and left this state and these pictures.
pub record SoFar (m : MovieData) (keep : Keep) (start : State) (from k : ℕ) (state : State) (kept : List Rows) : Type 0 where
  pub state_is : run m start from k ≡ Some state
  pub sound : AllSound m start from k
  pub kept_are : kept ≡ pictures m keep start from k
