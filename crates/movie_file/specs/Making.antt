-- Making a movie: a run from power-on, with its state after every so many frames as a checkpoint.
-- This project's own.
use Rattle.std.specs.Prelude.{◌≡◌, ◌⊎◌, ℕ, ◌+◌, ◌*◌, ◌/◌, ◌<◌, List, [], length, Bool, ◌&&◌}
use Rattle.std.specs.Prelude.{nat_le, IsTrue, if◌then◌else◌, Some, None, slice_get}
use Rattle.movie_machine.specs.Carts.{ram_length}
use Rattle.movie_machine.specs.States.{state_at_power_on}
use Rattle.movie_machine.specs.declared.cart.Cart.{Cart}
use Rattle.movie_machine.specs.declared.cart.Cart.TheVariants.{Guide, Chip}
use Rattle.vcs_machine.specs.Inputs.{InputData}
use Rattle.vcs_machine.specs.declared.fault.FaultKind.{FaultKind}
use Rattle.movie_file.specs.declared.checkpoint.Checkpoint.{Checkpoint}
use Rattle.movie_file.specs.declared.error.MakeError.{MakeError}
use Rattle.movie_file.specs.declared.error.MakeError.TheVariants.{Fault, BadCounts}
use Rattle.refused.specs.declared.Refused.{Refused}
use Rattle.refused.specs.declared.Refused.TheVariants.{NoMemory, Of}
use Rattle.movie_file.specs.Format.{takes_cart, most_frames, most_checkpoints}
use Rattle.movie_file.specs.Judgement.{AllSound, FaultsAt}
use Rattle.movie_file.specs.Movie.{MovieData}
use Rattle.movie_file.specs.Run.{run}

-- the version of a movie that is made by the guide's rules of a cartridge of so many bytes and so many
-- inputs: 1 if that has room for them
abbrev pub guide_version : ℕ → ℕ → ℕ
guide_version cartridge_length frames = if takes_cart 1 None cartridge_length && nat_le frames (most_frames 1) then 1 else 2

-- the version of a movie that is made of a cartridge and so many inputs
abbrev pub version_made : Cart → ℕ → ℕ
version_made (Guide bytes) frames = guide_version (length bytes) frames
version_made (Chip cartridge) frames = 3

-- frames of which a movie can be made, with a checkpoint after each `every` of them
abbrev pub counts_fit : ℕ → ℕ → Bool
counts_fit frames every =
    nat_le 1 frames && nat_le frames (most_frames 2) && nat_le 1 every && nat_le (frames / every) most_checkpoints

-- The movie of a run from power-on. Checkpoint j + 1 claims the state of the run after frame every
-- * (j + 1), and there is one for each multiple of `every` up to the last frame.
pub record IsMadeOf (cartridge : Cart) (inputs : List InputData) (every : ℕ) (m : MovieData) : Type 0 where
  pub version : m.version ≡ version_made cartridge (length inputs)
  pub cartridge_is : m.cartridge ≡ cartridge
  pub start : m.start ≡ state_at_power_on cartridge
  pub inputs_are : m.inputs ≡ inputs
  pub count : length m.checkpoints ≡ length inputs / every
  pub places : (j : ℕ) (c : Checkpoint) → slice_get m.checkpoints j ≡ Some c → c.frame ≡ every * (j + 1)
  pub states : (j : ℕ) (c : Checkpoint) → slice_get m.checkpoints j ≡ Some c → run m m.start 0 c.frame ≡ Some c.state

-- a movie that claims nothing
abbrev pub bare : Cart → List InputData → MovieData
bare cartridge inputs =
    record {
      version = version_made cartridge (length inputs);
      cartridge = cartridge;
      start = state_at_power_on cartridge;
      inputs = inputs;
      checkpoints = [];
    }

-- this frame of the run from power-on, counted from 1, faults, and each frame before it ends
abbrev pub IsFirstFault : Cart → List InputData → ℕ → FaultKind → Type 0
IsFirstFault cartridge inputs frame kind =
    (k : ℕ) × (frame ≡ k + 1) × AllSound (bare cartridge inputs) (state_at_power_on cartridge) 0 k
    × FaultsAt (bare cartridge inputs) (state_at_power_on cartridge) 0 k kind

-- Why no movie is made. The counts are looked at first. Memory is taken before the run, if there is a
-- checkpoint, and for each state, if the cartridge has RAM.
abbrev pub Explains : Cart → List InputData → ℕ → Refused MakeError → Type 0
Explains cartridge inputs every (Of (Fault frame kind)) =
    IsTrue (counts_fit (length inputs) every) × IsFirstFault cartridge inputs frame kind
Explains cartridge inputs every (Of BadCounts) = ¬ IsTrue (counts_fit (length inputs) every)
Explains cartridge inputs every NoMemory =
    IsTrue (counts_fit (length inputs) every) × ((0 < length inputs / every) ⊎ (0 < ram_length cartridge))
