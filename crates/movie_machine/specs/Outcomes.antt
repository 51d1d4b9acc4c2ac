-- What one frame does to a state: what the console does of whose rules the cartridge and the state are.
-- This project's own.
use Rattle.std.specs.Prelude.{ℕ, ◌≡◌, Option, Some, None, IfSome}
use Rattle.std.specs.Option.{option_map}
use Rattle.chip_machine.specs.Outcomes.{FrameOutcome as OutcomeOfChip, Played as PlayedByChip, Failed as FailedByChip, frame_of as frame_of_chip}
use Rattle.refused.specs.declared.Refused.{Refused}
use Rattle.refused.specs.declared.Refused.TheVariants.{NoMemory, Of}
use Rattle.vcs_machine.specs.Inputs.{InputData}
use Rattle.vcs_machine.specs.Outcomes.{FrameOutcome as OutcomeOfGuide, Played as PlayedByGuide, Failed as FailedByGuide, frame_of as frame_of_guide, cycles_of}
use Rattle.vcs_machine.specs.Pictures.{Rows}
use Rattle.vcs_machine.specs.declared.fault.FaultKind.{FaultKind}
use Rattle.movie_machine.specs.declared.cart.Cart.{Cart}
use Rattle.movie_machine.specs.declared.cart.Cart.TheVariants.{Guide as GuideCart, Chip as ChipCart}
use Rattle.movie_machine.specs.declared.state.State.{State}
use Rattle.movie_machine.specs.declared.state.State.TheVariants.{Guide, Chip}

-- What a frame leaves that failed: a state, and the cycles that it had taken.
pub record Left : Type 0 where
  pub state : State
  pub cycles : ℕ

-- A frame ended with a state and a picture after so many cycles, or it failed. By the chip's rules
-- nothing is said of what it leaves then.
pub data FrameOutcome : Type 0 where
  Played : State → Rows → ℕ → FrameOutcome
  Failed : FaultKind → Option Left → FrameOutcome

abbrev pub by_guide : ℕ → OutcomeOfGuide → FrameOutcome
by_guide cycles (PlayedByGuide s rows) = Played (Guide s) rows cycles
by_guide cycles (FailedByGuide kind s) = Failed kind (Some (record { state = Guide s; cycles = cycles }))

abbrev pub by_chip : OutcomeOfChip → FrameOutcome
by_chip (PlayedByChip s rows cycles) = Played (Chip s) rows cycles
by_chip (FailedByChip kind) = Failed kind None

-- What a frame on a cartridge does to a state, with this input. There is no frame of a state by other
-- rules than the cartridge's.
abbrev pub frame_of : Cart → State → InputData → Option FrameOutcome
frame_of (GuideCart bytes) (Guide s) i = Some (by_guide (cycles_of bytes s i) (frame_of_guide bytes s i))
frame_of (ChipCart cartridge) (Chip s) i = Some (by_chip (frame_of_chip cartridge s i))
frame_of (GuideCart bytes) (Chip s) i = None
frame_of (ChipCart cartridge) (Guide s) i = None

-- A frame's error, and the state that is left where the rules say one. That memory was refused says
-- nothing of the frame.
abbrev pub FailsAs : Option FrameOutcome → Refused FaultKind → State → Type 0
FailsAs outcome (Of kind) s = (left : Option Left) × (outcome ≡ Some (Failed kind left)) × IfSome left (λ l. l.state ≡ s)
FailsAs outcome NoMemory s = Unit {0}

-- What is left with this state, where there are cycles.
abbrev pub left_with : State → Option ℕ → Option Left
left_with s cycles = option_map (λ n. record { state = s; cycles = n }) cycles
