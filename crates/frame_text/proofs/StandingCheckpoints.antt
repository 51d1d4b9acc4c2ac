-- Which checkpoint stands after a frame.
use Rattle.std.proofs.Common.{◌≡◌, ◌≢◌, ℕ, ◌+◌, ◌-◌, ◌<◌, ◌≤◌, List, [], length, get_or, Some, refl, arith}
use Rattle.std.specs.Prelude.{◌==◌, slice_get}
use Rattle.std.specs.List.{position_or_len}
use Rattle.std.proofs.lemmas.Bool.Decides.{nat_tests}
use Rattle.std.proofs.lemmas.List.Sums.{position_or_len_is}
use Rattle.std.proofs.lemmas.Option.{slice_get-get_or, slice_get_within, slice_get_past}
use Rattle.movie_machine.specs.declared.state.State.{State}
use Rattle.movie_file.specs.Movie.{MovieData, IsMovie}
use Rattle.movie_file.specs.declared.checkpoint.Checkpoint.{Checkpoint}
use Rattle.replay_plan.specs.declared.notation.Notation.{Notation}
use Rattle.replay_segments.specs.NextCheckpoint.{IsNext, StandBefore}
use Rattle.replay_segments.proofs.CheckpointLemmas.{in_order}
use Rattle.frame_text.specs.FrameLines.{checkpoint_text, claim_text}

-- the first that stands there, or how many there are
first_is : (cs : List Checkpoint) (frame i : ℕ) (d : Checkpoint) → i ≤ length cs
    → ((j : ℕ) (c : Checkpoint) → slice_get cs j ≡ Some c → j < i → c.frame ≢ frame) → ((c : Checkpoint) → slice_get cs i ≡ Some c → c.frame ≡ frame)
    → position_or_len (λ c. c.frame == frame) cs ≡ i
first_is cs frame i d within before here =
    position_or_len_is (λ c. c.frame == frame) cs i d within
    (λ k less. let other = before k (get_or cs k d) (slice_get-get_or cs k d (omega arith)) less in grind (arith, nat_tests))
    (λ less. let same = here (get_or cs i d) (slice_get-get_or cs i d less) in grind (arith, nat_tests))

nothing_there : (notation : Notation) (m : MovieData) (frame : ℕ) (state : State)
    → ((j : ℕ) (c : Checkpoint) → slice_get m.checkpoints j ≡ Some c → c.frame ≢ frame) → checkpoint_text notation m frame state ≡ []
nothing_there notation m frame state none =
    let cs = m.checkpoints in
    let d : Checkpoint = record { frame = 0; state = state } in
    let all = first_is cs frame (length cs) d (omega arith) (λ j c at less. none j c at)
    (λ c at. absurd (let within = slice_get_within cs (length cs) c at in omega arith)) in
    rw (all, slice_get_past cs (length cs) (omega arith)) refl

pub stand_before : (m : MovieData) (next frame more : ℕ) → IsNext m next frame → frame ≤ more → StandBefore m next more
stand_before m next frame more is le = record { within = is.within; before = λ j c at less. let before = is.before j c at less in omega arith }

pub no_more : (notation : Notation) (m : MovieData) (next frame : ℕ) (state : State) → IsNext m next frame → next ≡ length m.checkpoints
    → checkpoint_text notation m frame state ≡ []
no_more notation m next frame state is all =
    nothing_there notation m frame state (λ j c at same.
    let within = slice_get_within m.checkpoints j c at in
    let before = is.before j c at (omega arith) in
    omega arith)

module _ (m : MovieData) (movie : IsMovie m) (next frame : ℕ) (c : Checkpoint) (at : slice_get m.checkpoints (next + 1 - 1) ≡ Some c) where
  here : slice_get m.checkpoints next ≡ Some c
  here = let same : next + 1 - 1 ≡ next = omega arith in rw same at at

  -- the next one stands after a later frame
  pub stands_later : (notation : Notation) (state : State) → IsNext m next frame → c.frame ≢ frame → checkpoint_text notation m frame state ≡ []
  stands_later notation state is other =
      nothing_there notation m frame state
      (λ j d there same. grind (arith, in_order m movie next j c d here there, is.after next c here, is.before j d there))

  -- the next one stands after this frame
  pub stands_here : (notation : Notation) (state : State) → IsNext m next frame → c.frame ≡ frame
      → checkpoint_text notation m frame state ≡ claim_text notation m.cartridge (next + 1) (Some c) state
  stands_here notation state is this =
      let place = first_is m.checkpoints frame next c is.within (λ j d there less same. let before = is.before j d there less in omega arith)
      (λ d there. grind (arith, in_order m movie next next c d here there)) in
      rw (place, here) refl

-- the text of a checkpoint after a frame: none is left, the next one is of this frame, or it is of a later one
pub ruleset what_is_told = (no_more, stands_here, stands_later)
