-- From where the one unbroken run of a movie can be replayed.
use Rattle.std.proofs.Common.{◌≡◌, ℕ, ◌+◌, ◌-◌, ◌<◌, ◌≤◌, length, Some, None}
use Rattle.std.proofs.Common.{IsSome, slice_get, arith, subst}
use Rattle.std.proofs.lemmas.Option.{slice_get_within}
use Rattle.vcs_machine.specs.declared.fault.FaultKind.{FaultKind}
use Rattle.movie_machine.specs.declared.state.State.{State}
use Rattle.movie_file.specs.Movie.{MovieData, IsMovie}
use Rattle.movie_file.specs.Judgement.{AllSound}
use Rattle.movie_file.specs.Run.{run}
use Rattle.movie_file.specs.declared.checkpoint.Checkpoint.{Checkpoint}
use Rattle.run_cursor.specs.RunFaults.{FaultsWithin}
use Rattle.run_cursor.proofs.CursorLemmas.{none_after}
use Rattle.replay_segments.specs.Private.Resuming.{IsResumable}
use Rattle.replay_segments.specs.Verdicts.{HasVerdict}
use Rattle.replay_segments.specs.declared.verdict.Verdict.TheVariants.{FalseCheckpoint, Fault}
use Rattle.replay_segments.proofs.CheckpointLemmas.{frame_in_range, frames_rise}

-- A run that comes to the end of a frame has no fault up to it.
pub no_fault_within : (m : MovieData) (frames frame : ℕ) (kind : FaultKind) → IsSome (run m m.start 0 frames) → FaultsWithin m frames frame kind → ⊥
no_fault_within m frames frame kind ends (k, less, is, fault) =
    let no : IsSome {T = State} None = rw (none_after m k frames kind fault less) at ends in cc

-- Where its first frames are sound a checkpoint after one of them claims the run's state.
pub claim_of_sound : (m : MovieData) (k j : ℕ) (c : Checkpoint) → IsMovie m → AllSound m m.start 0 k → slice_get m.checkpoints j ≡ Some c → c.frame ≤ k
    → run m m.start 0 c.frame ≡ Some c.state
claim_of_sound m k j c movie sound here le =
    let low = (frame_in_range m movie j c here).0 in
    let (state, ran, claims) = sound (c.frame - 1) (omega (arith, low)) in
    let whole : c.frame - 1 + 1 ≡ c.frame = omega (arith, low) in
    rw (claims j c here (omega (arith, whole))) (subst (λ (x : ℕ). run m m.start 0 x ≡ Some state) whole ran)

-- The run can be replayed from the checkpoint before the first false one.
pub IsResumable-false : (m : MovieData) (number frame : ℕ) → IsMovie m → HasVerdict m (FalseCheckpoint number frame)
    → IsResumable m (number - 1) frame
IsResumable-false m number frame movie (keep, (k, less, at, sound, (state, j, c, ran, num, here, after, ne))) =
    grind (arith, slice_get_within, frames_rise, claim_of_sound)

-- It can be replayed from the last checkpoint before the frame that faults.
pub IsResumable-fault : (m : MovieData) (frame next : ℕ) (kind : FaultKind) → IsMovie m → HasVerdict m (Fault frame kind) → next ≤ length m.checkpoints
    → ((j : ℕ) (c : Checkpoint) → j < next → slice_get m.checkpoints j ≡ Some c → c.frame < frame)
    → IsResumable m next (frame - 1)
IsResumable-fault m frame next kind movie (keep, (k, less, at, sound, (state, left, ran, fails))) within before =
    grind (arith, claim_of_sound)
