-- Which checkpoint is the next.
use Rattle.std.proofs.Common.{◌≡◌, ◌≢◌, ◌⊎◌, ℕ, ◌+◌, ◌-◌, ◌<◌, ◌≤◌, Some, length, slice_get}
use Rattle.std.proofs.Common.{arith}
use Rattle.std.proofs.lemmas.Bool.{cases_lt}
use Rattle.std.proofs.lemmas.Option.{slice_get_within}
use Rattle.movie_machine.specs.declared.state.State.{State}
use Rattle.movie_file.specs.Movie.{MovieData, IsMovie}
use Rattle.movie_file.specs.declared.checkpoint.Checkpoint.{Checkpoint}
use Rattle.movie_file.proofs.CheckpointLemmas.{checkpoint_in_range, checkpoints_rise}
use Rattle.replay_segments.specs.NextCheckpoint.{IsNext, StandBefore}
use Rattle.replay_segments.specs.Private.Steps.{IsClaim}
use Rattle.replay_segments.specs.declared.judge.Claim.TheVariants.{Holds}
use Rattle.replay_segments.proofs.ListLemmas.{same_at}

module _ (m : MovieData) (movie : IsMovie m) where
  -- A checkpoint is after a frame of its movie.
  pub frame_in_range : (j : ℕ) (c : Checkpoint) → slice_get m.checkpoints j ≡ Some c → (0 < c.frame) × (c.frame ≤ length m.inputs)
  frame_in_range j c at = let h = checkpoint_in_range m.cartridge m.checkpoints 0 (length m.inputs) j c movie.checkpoints at in (h.0, h.1)

  -- A later checkpoint is after a later frame.
  pub frames_rise : (i j : ℕ) (c d : Checkpoint) → i < j → slice_get m.checkpoints i ≡ Some c → slice_get m.checkpoints j ≡ Some d → c.frame < d.frame
  frames_rise i j c d less at there = checkpoints_rise m.cartridge m.checkpoints 0 (length m.inputs) i j c d movie.checkpoints less at there

  -- Two checkpoints are one, or stand in the order of their frames.
  pub in_order : (i j : ℕ) (c d : Checkpoint) → slice_get m.checkpoints i ≡ Some c → slice_get m.checkpoints j ≡ Some d
      → ((i < j) × (c.frame < d.frame)) ⊎ (((i ≡ j) × (c ≡ d)) ⊎ ((j < i) × (d.frame < c.frame)))
  in_order i j c d at there = grind (arith, cases_lt, frames_rise, same_at)

  -- None stands before the first frame.
  pub IsNext-start : IsNext m 0 (0 + 1)
  IsNext-start = grind (arith, frame_in_range)

  -- After the frame of a checkpoint its successor is the next one.
  pub IsNext-after : (i : ℕ) (c : Checkpoint) → slice_get m.checkpoints i ≡ Some c → IsNext m (i + 1) (c.frame + 1)
  IsNext-after i c at = grind (arith, slice_get_within, in_order)

pub ruleset at_start = IsNext-start

module _ (m : MovieData) (movie : IsMovie m) (next frame : ℕ) (state : State) (is : IsNext m next frame)
    (c : Checkpoint) (here : slice_get m.checkpoints next ≡ Some c) where
  -- The next one stands after a later frame.
  pub IsClaim-later : c.frame ≢ frame → IsClaim m next frame state (Holds next)
  IsClaim-later other = grind (arith, in_order)

  -- The next one stands after this frame, and is true.
  pub IsClaim-true : c.frame ≡ frame → c.state ≡ state → IsClaim m next frame state (Holds (next + 1))
  IsClaim-true this true_state =
      (rw (← this) (IsNext-after m movie next c here), λ j d at e. grind (arith, in_order m movie next j c d here at))

-- ---- the ones before a frame

pub none_before : (m : MovieData) (frame : ℕ) → StandBefore m 0 frame
none_before m frame = record { within = omega arith; before = λ j c at less. absurd (omega arith) }

-- none is left
pub all_before : (m : MovieData) (next frame count : ℕ) → count ≡ length m.checkpoints → next ≡ count → StandBefore m next frame → IsNext m count frame
all_before m next frame count all same is = rw (← same) (record {
  within = is.within;
  before = is.before;
  after = λ j c at le. let within = slice_get_within m.checkpoints j c at in absurd (omega arith);
})

module _ (m : MovieData) (movie : IsMovie m) (next frame : ℕ) (c : Checkpoint) (at : slice_get m.checkpoints (next + 1 - 1) ≡ Some c) where
  here : slice_get m.checkpoints next ≡ Some c
  here = let same : next + 1 - 1 ≡ next = omega arith in rw same at at

  pub next_is : StandBefore m next frame → frame ≤ c.frame → IsNext m next frame
  next_is is le = record {
    within = is.within;
    before = is.before;
    after = λ j d there from. grind (arith, in_order m movie next j c d here there);
  }

  pub one_more_before : StandBefore m next frame → c.frame < frame → StandBefore m (next + 1) frame
  one_more_before is less = record {
    within = omega (arith, slice_get_within m.checkpoints next c here);
    before = λ j d there low. grind (arith, in_order m movie next j c d here there, is.before j d there);
  }
