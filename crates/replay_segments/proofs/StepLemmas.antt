-- A frame of a movie, from what one frame answers.
use Rattle.std.proofs.Common.{◌≡◌, ℕ, Option, Some, None, Ok, Err, Bool, true, slice_get}
use Rattle.std.proofs.Common.{refl}
use Rattle.std.specs.Prelude.{if◌then◌else◌}
use Rattle.movie_machine.specs.Outcomes.{FrameOutcome, Played, Failed, FailsAs, frame_of}
use Rattle.movie_machine.specs.declared.cart.Cart.{Cart}
use Rattle.movie_machine.specs.declared.state.State.{State}
use Rattle.refused.specs.declared.Refused.{Refused}
use Rattle.refused.specs.declared.Refused.TheVariants.{NoMemory, Of}
use Rattle.vcs_machine.specs.Inputs.{InputData}
use Rattle.vcs_machine.specs.Pictures.{Rows}
use Rattle.vcs_machine.specs.declared.fault.FaultKind.{FaultKind}
use Rattle.movie_file.specs.Movie.{MovieData}
use Rattle.movie_file.specs.Run.{frame_after}
use Rattle.replay_segments.specs.Private.Steps.{IsFrameStep}

module _ (m : MovieData) (k : ℕ) (old new : State) (cartridge : Cart) (input : InputData) (keep : Bool)
    (same : cartridge ≡ m.cartridge) (at : slice_get m.inputs k ≡ Some input) where
  -- The frame of the movie is that of its cartridge and its input.
  frame_after-is : (outcome : FrameOutcome) → frame_of cartridge old input ≡ Some outcome → frame_after m k old ≡ Some outcome
  frame_after-is outcome e = rw (at, ← same, e) refl

  pub step-played : (picture : Option Rows) (rows : Rows) (cycles : ℕ) → frame_of cartridge old input ≡ Some (Played new rows cycles)
      → picture ≡ (if keep then Some rows else None) → IsFrameStep m k old keep new (Ok picture)
  step-played picture rows cycles ends kept = (rows, cycles, frame_after-is (Played new rows cycles) ends, kept)

  pub step-failed : (error : Refused FaultKind) → FailsAs (frame_of cartridge old input) error new → (error ≡ NoMemory → keep ≡ true)
      → IsFrameStep m k old keep new (Err error)
  step-failed (Of kind) fails memory = (fails.0, frame_after-is (Failed kind fails.0) fails.1)
  step-failed NoMemory fails memory = memory refl
