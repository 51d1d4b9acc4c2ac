-- Pieces that are looked for by number, and whose pictures are taken. This project's own.
use Rattle.std.specs.Prelude.{ℕ, ◌+◌, ◌<◌, ◌≡◌, ◌≢◌, IsTrue, IsFalse, List, length, Some, Result}
use Rattle.std.specs.Prelude.{Ok, Err, slice_get}
use Rattle.refused.specs.declared.Refused.{Refused}
use Rattle.refused.specs.declared.Refused.TheVariants.{Of, NoMemory}
use Rattle.vcs_machine.specs.Pictures.{Rows}
use Rattle.replay_segments.specs.declared.gathering.Missing.{Missing}
use Rattle.replay_segments.specs.declared.verdict.Verdict.{Verdict}
use Rattle.replay_segments.specs.declared.verdict.Verdict.TheVariants.{Genuine}
use Rattle.replay_segments.specs.Gathering.{NamesAll, HasNumber, HasPassed, IsMissing, AllRefused}
use Rattle.replay_segments.specs.Gathering.{picture_count}
use Rattle.replay_segments.specs.Pieces.{PieceData, IsPiece, Job, IsJob, passed, segments_of}
use Rattle.replay_segments.specs.Segments.{IsSegment}

-- At an index stands a piece of this number that passed.
abbrev pub IsPassedAt : List PieceData → ℕ → ℕ → Type 0
IsPassedAt pieces number i =
    (p : PieceData) × (slice_get pieces i ≡ Some p) × (p.number ≡ number) × IsTrue (passed p.outcome) × IsPiece p

-- Each smaller number has a piece that passed.
abbrev pub ArePassedBelow : List PieceData → ℕ → Type 0
ArePassedBelow pieces number = (k : ℕ) → k < number → (i : ℕ) × IsPassedAt pieces k i

-- Of the numbers below n this is the first without a piece that passed.
pub record IsFirstUnpassed (pieces : List PieceData) (n number : ℕ) : Type 0 where
  pub within : number < n
  pub below : ArePassedBelow pieces number
  pub none : HasPassed pieces number → ⊥

-- What is answered of a number without a piece that passed: the verdict of one that was judged,
-- else why there is none.
abbrev pub IsAnswer : List PieceData → ℕ → Result Verdict (Refused Missing) → Type 0
IsAnswer pieces number (Ok v) =
    (i : ℕ) × (p : PieceData) × (slice_get pieces i ≡ Some p) × (p.number ≡ number) × (p.outcome ≡ Ok v) × IsFalse (passed p.outcome) × IsPiece p
IsAnswer pieces number (Err (Of missing)) = (missing.segment ≡ number) × IsMissing pieces number
IsAnswer pieces number (Err NoMemory) = HasNumber pieces number × AllRefused pieces number

-- The pictures of a piece of this number that passed were taken, and it is without memory now.
pub record IsTaken (old : List PieceData) (number : ℕ) (kept : List Rows) (new : List PieceData) : Type 0 where
  pub of : (job : Job) → NamesAll job old
      → IsJob job × (number < segments_of job) × IsSegment job.movie job.cuts job.keep number (Genuine kept)
  pub names : (job : Job) → NamesAll job old → NamesAll job new
  pub others : (k : ℕ) → k ≢ number → HasPassed old k → HasPassed new k
  pub rest : picture_count new + length kept ≡ picture_count old
