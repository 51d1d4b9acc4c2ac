-- Segments one after another are one unbroken run.
use Rattle.std.proofs.Common.{Ok, ◌≡◌, ℕ, zero, suc, ◌+◌, ◌-◌, ◌<◌, ◌≤◌, List, [], ◌++◌, length, Some}
use Rattle.std.proofs.Common.{refl, arith, ◌∙◌, subst, sym, add-zero, append-nil, append_assoc}
use Rattle.std.proofs.Common.{if◌then◌else◌, IsFalse, inl, inr}
use Rattle.vcs_machine.specs.Pictures.{Rows}
use Rattle.movie_machine.specs.declared.state.State.{State}
use Rattle.movie_file.specs.Movie.{MovieData}
use Rattle.movie_file.specs.Run.{run}
use Rattle.movie_file.specs.Judgement.{AllSound}
use Rattle.movie_file.proofs.RunLemmas.{run-shift, AllSound-shift}
use Rattle.replay_plan.specs.declared.keep.Keep.{Keep}
use Rattle.replay_segments.specs.declared.verdict.Verdict.{Verdict}
use Rattle.replay_segments.specs.declared.verdict.Verdict.TheVariants.{Genuine}
use Rattle.replay_plan.specs.Keeping.{is_kept}
use Rattle.replay_segments.specs.KeptPictures.{pictures, picture_after}
use Rattle.replay_segments.specs.Pieces.{Job, IsJob, segments_of, passed}
use Rattle.replay_segments.specs.Segments.{end_of, from_of, start_of, IsSegment}
use Rattle.replay_segments.specs.Verdicts.{IsJudged, IsVerdict}
use Rattle.replay_segments.proofs.BadFrames.{IsBad, IsGenuineOrBad, judged_cases, IsJudged-bad, IsBad-shift}
use Rattle.replay_segments.proofs.RunStateLemmas.{claim_of_sound}
use Rattle.replay_segments.proofs.SegmentLemmas.{at_cut, end_of-cut, end_of-last, end_of-within}
use Rattle.replay_segments.proofs.SegmentLemmas.{from_of-next, from_of-after, start_of-after}

-- The first i segments are genuine, with these pictures, as a beginning of the unbroken run, which
-- stands where the next one begins.
pub record IsPrefix (job : Job) (i : ℕ) (kept : List Rows) : Type 0 where
  pub judged : IsJudged job.movie job.keep job.movie.start 0 (from_of job.movie job.cuts i) (Genuine kept)
  pub stands : i ≤ length job.cuts → run job.movie job.movie.start 0 (from_of job.movie job.cuts i) ≡ Some (start_of job.movie job.cuts i)

pictures-shift : (m : MovieData) (keep : Keep) (s : State) (a i : ℕ) (t : State) → run m s a i ≡ Some t → (j : ℕ)
    → pictures m keep s a (i + j) ≡ pictures m keep s a i ++ pictures m keep t (a + i) j
pictures-shift m keep s a i t is zero = rw add-zero (sym (append-nil _))
pictures-shift m keep s a i t is (suc j) =
    let at : a + (i + j) ≡ a + i + j = omega arith in
    let more : i + suc j ≡ suc (i + j) = omega arith in
    rw (more, at, run-shift m s a i t is j, pictures-shift m keep s a i t is j)
    (append_assoc (pictures m keep s a i) (pictures m keep t (a + i) j)
    (if is_kept keep (a + i + j + 1) then picture_after m (a + i + j) (run m t (a + i) j) else []))

pub IsPrefix-start : (job : Job) → IsPrefix job 0 []
IsPrefix-start job = record { judged = ((λ i less. absurd (omega arith)), refl); stands = λ le. refl }

-- At a cut whose checkpoint is true the run stands where the next segment begins.
stands-next : (job : Job) (i : ℕ) → IsJob job → i < length job.cuts → AllSound job.movie job.movie.start 0 (end_of job.movie job.cuts i)
    → run job.movie job.movie.start 0 (from_of job.movie job.cuts (i + 1)) ≡ Some (start_of job.movie job.cuts (i + 1))
stands-next job i is less sound =
    let (n, c, cut) = at_cut job.movie job.cuts is.movie is.cuts i less in
    let e = end_of-cut job.movie job.cuts i n c cut in
    rw (from_of-after job.movie job.cuts i n c cut, start_of-after job.movie job.cuts i n c cut)
    (claim_of_sound job.movie (end_of job.movie job.cuts i) (n - 1) c is.movie sound cut.checkpoint (omega (arith, e)))

module _ (job : Job) (is : IsJob job) (i : ℕ) (less : i < segments_of job) (kept : List Rows) (prefix : IsPrefix job i kept) where
  -- One more segment that passed.
  pub IsPrefix-next : (more : List Rows) → IsSegment job.movie job.cuts job.keep i (Genuine more) → IsPrefix job (i + 1) (kept ++ more)
  IsPrefix-next more (len, ends, judged) =
      let m = job.movie in
      let from = from_of m job.cuts i in
      let t = start_of m job.cuts i in
      let stands = prefix.stands (omega arith) in
      let (sound, more_are) = subst (λ (a : ℕ). IsJudged m job.keep t a len (Genuine more)) {y = 0 + from} (omega arith) judged in
      let whole : from_of m job.cuts (i + 1) ≡ from + len = from_of-next m job.cuts i ∙ sym ends in
      let all : AllSound m m.start 0 (from + len) = AllSound-shift m m.start 0 from t len stands prefix.judged.0 sound in
      record {
        judged = rw whole (all, rw (prefix.judged.1, more_are, pictures-shift m job.keep m.start 0 from t stands len) refl);
        stands = λ le. stands-next job i is (omega arith) (rw (← ends) all);
      }

  -- A segment that did not pass gives the verdict.
  pub IsVerdict-bad : (v : Verdict) → IsSegment job.movie job.cuts job.keep i v → IsFalse (passed (Ok v)) → IsVerdict job.movie job.keep v
  IsVerdict-bad v (len, ends, judged) bad = by (judged_cases job.movie job.keep (start_of job.movie job.cuts i) (from_of job.movie job.cuts i) len v judged)
    where
      by : IsGenuineOrBad job.movie job.keep (start_of job.movie job.cuts i) (from_of job.movie job.cuts i) len v → IsVerdict job.movie job.keep v
      by (inl (_, is)) = let no = rw is at bad in absurd cc
      by (inr first) =
          let within = end_of-within job.movie job.cuts is.movie is.cuts i in
          IsJudged-bad job.movie job.keep job.movie.start 0 (length job.movie.inputs) v
          (IsBad-shift job.movie job.movie.start 0 (from_of job.movie job.cuts i) (start_of job.movie job.cuts i) (prefix.stands (omega arith))
          len (length job.movie.inputs) v (omega (arith, ends, within)) prefix.judged.0
          (subst (λ (a : ℕ). IsBad job.movie (start_of job.movie job.cuts i) a len v) (omega arith) first))

-- Where all segments passed, the movie is genuine.
pub IsVerdict-genuine : (job : Job) (n : ℕ) (kept : List Rows) → n ≡ segments_of job → IsPrefix job n kept → IsVerdict job.movie job.keep (Genuine kept)
IsVerdict-genuine job n kept is prefix = grind (arith, from_of-next, end_of-last)
