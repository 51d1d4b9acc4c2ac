-- A movie has one verdict.
use Rattle.std.proofs.Common.{◌≡◌, ℕ, arith, ◌∙◌, subst, sym, inl, inr}
use Rattle.std.proofs.lemmas.Bool.{cases_lt}
use Rattle.movie_machine.specs.declared.state.State.{State}
use Rattle.movie_file.specs.Movie.{MovieData, IsMovie}
use Rattle.movie_file.specs.Judgement.{IsSound}
use Rattle.movie_file.proofs.RunLemmas.{false_no_fault, same_number}
use Rattle.movie_file.proofs.RunLemmas.{same_kind}
use Rattle.replay_plan.specs.declared.keep.Keep.{Keep}
use Rattle.replay_segments.specs.declared.verdict.Verdict.{Verdict}
use Rattle.replay_segments.specs.declared.verdict.Verdict.TheVariants.{Genuine, FalseCheckpoint}
use Rattle.replay_segments.specs.declared.verdict.Verdict.TheVariants.{Fault}
use Rattle.replay_segments.specs.Verdicts.{IsJudged}
use Rattle.replay_segments.proofs.BadFrames.{IsBadAt, IsGenuineOrBad, judged_cases}

module _ (m : MovieData) (start : State) (from : ℕ) where
  -- No frame is both sound and bad.
  sound_no_bad : (k : ℕ) (v : Verdict) → IsSound m start from k → IsBadAt m start from k v → ⊥
  sound_no_bad k v sound bad = grind arith

  -- A frame is bad in one way.
  bad_once : (k : ℕ) (v w : Verdict) → IsMovie m → IsBadAt m start from k v → IsBadAt m start from k w → v ≡ w
  bad_once k (FalseCheckpoint n e) (FalseCheckpoint n' e') movie one two =
      let same = same_number m start from k n n' movie one.1 two.1 in cc (one.0, two.0)
  bad_once k (Fault e kind) (Fault e' kind') movie one two = let same = same_kind m start from k kind kind' one.1 two.1 in cc (one.0, two.0)
  bad_once k (FalseCheckpoint n e) (Fault e' kind) movie one two = absurd (false_no_fault m start from k n kind one.1 two.1)
  bad_once k (Fault e kind) (FalseCheckpoint n e') movie one two = absurd (false_no_fault m start from k n kind two.1 one.1)
  bad_once k (Genuine kept) w movie one two = absurd one
  bad_once k v (Genuine kept) movie one two = absurd two

  -- What is said of some frames of a run is one thing.
  pub IsJudged-once : (keep : Keep) (len : ℕ) (v w : Verdict) → IsMovie m → IsJudged m keep start from len v → IsJudged m keep start from len w → v ≡ w
  IsJudged-once keep len v w movie one two = by (judged_cases m keep start from len v one) (judged_cases m keep start from len w two)
    where
      by : IsGenuineOrBad m keep start from len v → IsGenuineOrBad m keep start from len w → v ≡ w
      by (inl (sound, is)) (inl (_, other)) = is ∙ sym other
      by (inl (sound, is)) (inr (k, less, _, bad)) = absurd (sound_no_bad k w (sound k less) bad)
      by (inr (k, less, _, bad)) (inl (sound, is)) = absurd (sound_no_bad k v (sound k less) bad)
      by (inr (k, less, before, bad)) (inr (k', less', before', bad')) =
          elim (cases_lt k k') [
            | inl low ↦ absurd (sound_no_bad k v (before' k low) bad)
            | inr le ↦ elim (cases_lt k' k) [
              | inl low ↦ absurd (sound_no_bad k' w (before k' low) bad')
              | inr ge ↦ bad_once k v w movie bad (subst (λ (x : ℕ). IsBadAt m start from x w) (omega arith) bad')
            ]
          ]
