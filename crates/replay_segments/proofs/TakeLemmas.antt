-- The pictures of a piece are taken.
use Rattle.std.proofs.Common.{◌≡◌, ◌≢◌, ℕ, ◌<◌, List, length, Some, Ok, Err, alloc_error, refl, slice_get, slice_set}
use Rattle.std.proofs.Common.{get_or, arith, ap, ◌∙◌, sym}
use Rattle.std.proofs.lemmas.List.Elements.{All-set}
use Rattle.std.proofs.lemmas.List.Sums.{sum_by-set}
use Rattle.std.proofs.lemmas.Option.{slice_get_within, get_or_from_slice_get}
use Rattle.vcs_machine.specs.Pictures.{Rows}
use Rattle.replay_segments.specs.declared.verdict.Verdict.{Verdict}
use Rattle.replay_segments.specs.declared.verdict.Verdict.TheVariants.{Genuine}
use Rattle.replay_segments.specs.Private.Finding.{IsPassedAt, IsTaken}
use Rattle.replay_segments.specs.Gathering.{NamesAll, HasPassed}
use Rattle.replay_segments.specs.Pieces.{PieceData, IsPiece, Job, IsJob, segments_of}
use Rattle.replay_segments.specs.Pieces.{outcome_pictures}
use Rattle.replay_segments.specs.Segments.{IsSegment}
use Rattle.replay_segments.proofs.ListLemmas.{same_at, All-at, slice_get-set_other}

-- What a judged piece says of the job that all pieces name.
pub of_job : (job : Job) (pieces : List PieceData) (i : ℕ) (p : PieceData) (number : ℕ) (v : Verdict) → NamesAll job pieces → slice_get pieces i ≡ Some p
    → p.number ≡ number → p.outcome ≡ Ok v → IsPiece p → IsJob job × (number < segments_of job) × IsSegment job.movie job.cuts job.keep number v
of_job job pieces i p number v names at is judged lawful =
    let same : p.job ≡ job = All-at (λ (q : PieceData). q.job ≡ job) pieces i p at names in
    rw (← same, ← is) (lawful.job, lawful.number, rw judged at lawful.outcome)

pub IsTaken-set : (old : List PieceData) (number i : ℕ) (q x : PieceData) (kept : List Rows) → IsPassedAt old number i → slice_get old i ≡ Some q
    → q.outcome ≡ Ok (Genuine kept) → x ≡ record { number = q.number; outcome = Err alloc_error; job = q.job } → IsPiece q
    → IsTaken old number kept (slice_set old i x)
IsTaken-set old number i q x kept (p, at, is, passed, _) here genuine new lawful =
    let same = same_at old i i q p refl here at in
    let number_is : q.number ≡ number = ap (λ (y : PieceData). y.number) same ∙ is in
    let sums = sum_by-set (λ (y : PieceData). outcome_pictures y.outcome) old i x q (slice_get_within old i q here) in
    let had : outcome_pictures (get_or old i q).outcome ≡ length kept = rw (get_or_from_slice_get old i q q here, genuine) refl in
    let has : outcome_pictures x.outcome ≡ 0 = rw new refl in
    record {
      of = λ job names. of_job job old i q number (Genuine kept) names here number_is genuine lawful;
      names = λ job names.
          let q_is : q.job ≡ job = All-at (λ (y : PieceData). y.job ≡ job) old i q here names in
          All-set (λ (y : PieceData). y.job ≡ job) old i x (ap (λ (y : PieceData). y.job) new ∙ q_is) names;
      others = λ k other has_passed. others k other has_passed;
      rest = omega (arith, sums, had, has);
    }
  where
    others : (k : ℕ) → k ≢ number → HasPassed old k → HasPassed (slice_set old i x) k
    others k other (j, y, y_at, y_is, ok) = (
      j,
      y,
      slice_get-set_other old i j x y (λ eq. other (sym y_is ∙ (ap (λ (z : PieceData). z.number) (same_at old j i y p eq y_at at) ∙ is))) y_at,
      y_is,
      ok,
    )
