-- What a piece is to contracts. This project's own.
use Rattle.std.specs.Prelude.{◌⊎◌, ℕ, ◌+◌, ◌<◌, ◌≤◌, ◌≡◌, Bool, true, false, List, length, Result, Ok, Err, IfOk}
use Rattle.std.specs.declared.alloc.AllocError.{AllocError}
use Rattle.movie_file.specs.Movie.{MovieData, IsMovie}
use Rattle.movie_machine.specs.Carts.{ram_length}
use Rattle.replay_plan.specs.declared.keep.Keep.{Keep}
use Rattle.replay_segments.specs.declared.verdict.Verdict.{Verdict}
use Rattle.replay_segments.specs.declared.verdict.Verdict.TheVariants.{Genuine, FalseCheckpoint}
use Rattle.replay_segments.specs.declared.verdict.Verdict.TheVariants.{Fault}
use Rattle.replay_segments.specs.Cuts.{Fits}
use Rattle.replay_plan.specs.Keeping.{is_kept}
use Rattle.replay_segments.specs.Segments.{IsSegment, from_of, end_of}

-- What a piece is a piece of: a movie, its cuts, and which frames are kept.
pub record Job : Type 0 where
  pub movie : MovieData
  pub cuts : List ℕ
  pub keep : Keep

abbrev pub job_of : MovieData → List ℕ → Keep → Job
job_of m cuts keep = record { movie = m; cuts = cuts; keep = keep }

-- How many segments it has: one more than cuts.
abbrev pub segments_of : Job → ℕ
segments_of job = length job.cuts + 1

pub record IsJob (job : Job) : Type 0 where
  pub movie : IsMovie job.movie
  pub cuts : Fits job.cuts job.movie

pub record PieceData : Type 0 where
  pub number : ℕ
  pub outcome : Result Verdict AllocError
  pub job : Job

-- The outcome is that of the segment, or that memory was refused.
abbrev pub IsOutcome : Job → ℕ → Result Verdict AllocError → Type 0
IsOutcome job number outcome = IfOk outcome (IsSegment job.movie job.cuts job.keep number)

-- What a piece keeps to.
pub record IsPiece (p : PieceData) : Type 0 where
  pub job : IsJob p.job
  pub number : p.number < segments_of p.job
  pub outcome : IsOutcome p.job p.number p.outcome

-- Whether the segment passed: its verdict is genuine.
abbrev pub passed : Result Verdict AllocError → Bool
passed (Ok (Genuine kept)) = true
passed (Ok (FalseCheckpoint number frame)) = false
passed (Ok (Fault frame kind)) = false
passed (Err e) = false

-- Some frame of the segment is kept.
abbrev pub HasKept : Job → ℕ → Type 0
HasKept job number =
    (frame : ℕ) × (from_of job.movie job.cuts number < frame) × (frame ≤ end_of job.movie job.cuts number)
    × (is_kept job.keep frame ≡ true)

-- A replay of the segment takes memory: for a kept picture, or for the RAM of the cartridge.
abbrev pub TakesMemory : Job → ℕ → Type 0
TakesMemory job number = HasKept job number ⊎ (0 < ram_length job.movie.cartridge)

-- How many pictures an outcome has.
abbrev pub outcome_pictures : Result Verdict AllocError → ℕ
outcome_pictures (Ok (Genuine kept)) = length kept
outcome_pictures (Ok (FalseCheckpoint number frame)) = 0
outcome_pictures (Ok (Fault frame kind)) = 0
outcome_pictures (Err e) = 0
