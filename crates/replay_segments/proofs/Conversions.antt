-- A movie in version 2 has the verdicts of the movie.
use Rattle.std.proofs.Common.{◌≡◌, ℕ, zero, suc, ◌+◌, Option, Some, None, refl, sym, ◌∙◌}
use Rattle.movie_machine.specs.declared.state.State.{State}
use Rattle.movie_file.specs.Conversion.{in_version_2}
use Rattle.movie_file.specs.Movie.{MovieData}
use Rattle.movie_file.specs.Run.{run}
use Rattle.movie_file.proofs.Conversions.{run-converted, sound-converted, sound-back}
use Rattle.movie_file.proofs.Conversions.{faults-converted, faults-back, false-converted}
use Rattle.movie_file.proofs.Conversions.{false-back}
use Rattle.replay_plan.specs.declared.keep.Keep.{Keep}
use Rattle.replay_segments.specs.declared.verdict.Verdict.{Verdict}
use Rattle.replay_segments.specs.declared.verdict.Verdict.TheVariants.{Genuine, FalseCheckpoint}
use Rattle.replay_segments.specs.declared.verdict.Verdict.TheVariants.{Fault}
use Rattle.replay_segments.specs.KeptPictures.{picture_after, pictures}
use Rattle.replay_segments.specs.Verdicts.{IsJudged}

picture_after-converted : (m : MovieData) (k : ℕ) (state : Option State) → picture_after (in_version_2 m) k state ≡ picture_after m k state
picture_after-converted m k None = refl
picture_after-converted m k (Some state) = refl

pictures-converted : (m : MovieData) (keep : Keep) (start : State) (from k : ℕ)
    → pictures (in_version_2 m) keep start from k ≡ pictures m keep start from k
pictures-converted m keep start from zero = refl
pictures-converted m keep start from (suc k) =
    rw (pictures-converted m keep start from k, run-converted m start from k, picture_after-converted m (from + k) (run m start from k)) refl

module _ (m : MovieData) (keep : Keep) (start : State) (from len : ℕ) where
  pub judged-converted : (v : Verdict) → IsJudged m keep start from len v → IsJudged (in_version_2 m) keep start from len v
  judged-converted (Genuine kept) said =
      (λ i less. sound-converted m start from i (said.0 i less), said.1 ∙ sym (pictures-converted m keep start from len))
  judged-converted (FalseCheckpoint number frame) (k, less, at, before, bad) =
      (k, less, at, λ i low. sound-converted m start from i (before i low), false-converted m start from k number bad)
  judged-converted (Fault frame kind) (k, less, at, before, bad) =
      (k, less, at, λ i low. sound-converted m start from i (before i low), faults-converted m start from k kind bad)

  pub judged-back : (v : Verdict) → IsJudged (in_version_2 m) keep start from len v → IsJudged m keep start from len v
  judged-back (Genuine kept) said =
      (λ i less. sound-back m start from i (said.0 i less), said.1 ∙ pictures-converted m keep start from len)
  judged-back (FalseCheckpoint number frame) (k, less, at, before, bad) =
      (k, less, at, λ i low. sound-back m start from i (before i low), false-back m start from k number bad)
  judged-back (Fault frame kind) (k, less, at, before, bad) =
      (k, less, at, λ i low. sound-back m start from i (before i low), faults-back m start from k kind bad)
