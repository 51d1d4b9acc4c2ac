-- One more frame of a run.
use Rattle.std.proofs.Common.{◌≡◌, ℕ, ◌+◌, ◌<◌, List, [], ◌∷◌, ◌++◌, Some, refl}
use Rattle.std.proofs.Common.{add-one, below_more}
use Rattle.std.specs.Prelude.{if◌then◌else◌}
use Rattle.movie_machine.specs.Outcomes.{Played}
use Rattle.vcs_machine.specs.Pictures.{Rows}
use Rattle.movie_machine.specs.declared.state.State.{State}
use Rattle.movie_file.specs.Movie.{MovieData}
use Rattle.movie_file.specs.Run.{run, frame_after}
use Rattle.movie_file.specs.Judgement.{IsSound}
use Rattle.replay_plan.specs.declared.keep.Keep.{Keep}
use Rattle.replay_plan.specs.Keeping.{is_kept}
use Rattle.replay_segments.specs.KeptPictures.{pictures}
use Rattle.replay_segments.specs.declared.verdict.Verdict.TheVariants.{FalseCheckpoint}
use Rattle.replay_segments.specs.Private.Steps.{ClaimsHold, IsClaim, SoFar}
use Rattle.replay_segments.specs.declared.judge.Claim.TheVariants.{False}
use Rattle.replay_segments.specs.Verdicts.{IsJudged}

module _ (m : MovieData) (keep : Keep) (start : State) (from k : ℕ) (state new : State) (rows : Rows) (cycles : ℕ) (kept : List Rows)
    (far : SoFar m keep start from k state kept) (ends : frame_after m (from + k) state ≡ Some (Played new rows cycles)) where
  run-next : run m start from (k + 1) ≡ Some new
  run-next = rw (add-one, far.state_is, ends) refl

  pictures-next : pictures m keep start from (k + 1) ≡ pictures m keep start from k ++ (if is_kept keep (from + k + 1) then rows ∷ [] else [])
  pictures-next = rw (add-one k, far.state_is, ends) refl

  -- A frame that ends, and after which each checkpoint is true, keeps all sound.
  pub SoFar-next : (out : List Rows) → ClaimsHold m (from + k + 1) new → out ≡ kept ++ (if is_kept keep (from + k + 1) then rows ∷ [] else [])
      → SoFar m keep start from (k + 1) new out
  SoFar-next out claims is = record {
    state_is = run-next;
    sound = below_more (λ (i : ℕ). IsSound m start from i) k far.sound (new, run-next, claims);
    kept_are = rw (pictures-next, ← far.kept_are) is;
  }

  -- A frame that ends, and after which a checkpoint is false, is the first that is not sound.
  pub IsJudged-false : (len next number : ℕ) → k < len → IsClaim m next (from + k + 1) new (False number)
      → IsJudged m keep start from len (FalseCheckpoint number (from + k + 1))
  IsJudged-false len next number less (is, c, here, at, false) = rw is (k, less, refl, far.sound, (new, next, c, run-next, refl, here, at, false))
