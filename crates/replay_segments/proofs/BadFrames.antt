-- What is judged is genuine, or bad by its first frame that is not sound.
use Rattle.std.proofs.Common.{◌≡◌, ℕ, ◌+◌, ◌<◌, ◌≤◌, Some, arith, ◌⊎◌}
use Rattle.movie_machine.specs.declared.state.State.{State}
use Rattle.movie_file.specs.Movie.{MovieData}
use Rattle.movie_file.specs.Judgement.{AllSound, FaultsAt, IsFalseAt}
use Rattle.movie_file.specs.Run.{run}
use Rattle.movie_file.proofs.RunLemmas.{run-shift, AllSound-shift}
use Rattle.replay_plan.specs.declared.keep.Keep.{Keep}
use Rattle.replay_segments.specs.declared.verdict.Verdict.{Verdict}
use Rattle.replay_segments.specs.declared.verdict.Verdict.TheVariants.{Genuine, FalseCheckpoint}
use Rattle.replay_segments.specs.declared.verdict.Verdict.TheVariants.{Fault}
use Rattle.replay_segments.specs.KeptPictures.{pictures}
use Rattle.replay_segments.specs.Verdicts.{IsJudged}

-- Frame k + 1 of the run faults, or has a false checkpoint, as the verdict says.
abbrev pub IsBadAt : MovieData → State → ℕ → ℕ → Verdict → Type 0
IsBadAt m start from k (Genuine kept) = ⊥
IsBadAt m start from k (FalseCheckpoint number frame) = (frame ≡ from + k + 1) × IsFalseAt m start from k number
IsBadAt m start from k (Fault frame kind) = (frame ≡ from + k + 1) × FaultsAt m start from k kind

-- A frame of the first `len` is bad, and those before it are sound.
abbrev pub IsBad : MovieData → State → ℕ → ℕ → Verdict → Type 0
IsBad m start from len v = (k : ℕ) × (k < len) × AllSound m start from k × IsBadAt m start from k v

-- All of them are sound, or one is bad.
abbrev pub IsGenuineOrBad : MovieData → Keep → State → ℕ → ℕ → Verdict → Type 0
IsGenuineOrBad m keep start from len v = (AllSound m start from len × (v ≡ Genuine (pictures m keep start from len))) ⊎ IsBad m start from len v

pub judged_cases : (m : MovieData) (keep : Keep) (start : State) (from len : ℕ) (v : Verdict) → IsJudged m keep start from len v
    → IsGenuineOrBad m keep start from len v
judged_cases m keep start from len v h = grind arith

pub IsJudged-bad : (m : MovieData) (keep : Keep) (start : State) (from len : ℕ) (v : Verdict) → IsBad m start from len v
    → IsJudged m keep start from len v
IsJudged-bad m keep start from len v h = grind arith

-- From where a run stands a bad frame is a later one of the whole run.
module _ (m : MovieData) (s : State) (a i : ℕ) (t : State) (is : run m s a i ≡ Some t) where
  IsBadAt-shift : (k : ℕ) (v : Verdict) → IsBadAt m t (a + i) k v → IsBadAt m s a (i + k) v
  IsBadAt-shift k v bad = grind (arith, run-shift)

  pub IsBad-shift : (len more : ℕ) (v : Verdict) → i + len ≤ more → AllSound m s a i → IsBad m t (a + i) len v → IsBad m s a more v
  IsBad-shift len more v le sound (k, less, before, bad) =
      (i + k, omega arith, AllSound-shift m s a i t k is sound before, IsBadAt-shift k v bad)
