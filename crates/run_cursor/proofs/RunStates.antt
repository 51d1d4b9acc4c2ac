-- The states of a movie's run are by the rules of its cartridge, so that each has a frame on it.
use Rattle.std.proofs.Common.{◌≡◌, ℕ, zero, suc, ◌+◌, Bool, true, false, List, Option, Some, None, refl, subst}
use Rattle.std.specs.Prelude.{IsSome, IsTrue, option_and_then, slice_get}
use Rattle.cart_board.specs.CartState.{Cartridge}
use Rattle.chip_machine.specs.Outcomes.{FrameOutcome as OutcomeOfChip, Played as PlayedByChip, Failed as FailedByChip, frame_of as frame_of_chip}
use Rattle.movie_machine.specs.Outcomes.{FrameOutcome, Played, Failed, by_chip, by_guide, frame_of}
use Rattle.movie_machine.specs.States.{is_of}
use Rattle.movie_machine.specs.declared.cart.Cart.{Cart}
use Rattle.movie_machine.specs.declared.cart.Cart.TheVariants.{Guide as GuideCart, Chip as ChipCart}
use Rattle.movie_machine.specs.declared.state.State.{State}
use Rattle.movie_machine.specs.declared.state.State.TheVariants.{Guide, Chip}
use Rattle.vcs_machine.specs.Inputs.{InputData}
use Rattle.vcs_machine.specs.Outcomes.{FrameOutcome as OutcomeOfGuide, Played as PlayedByGuide, Failed as FailedByGuide}
use Rattle.vcs_machine.specs.Outcomes.{cycles_of, frame_of as frame_of_guide}
use Rattle.vcs_machine.specs.Pictures.{Rows}
use Rattle.movie_file.specs.Movie.{MovieData, IsMovie}
use Rattle.movie_file.specs.Run.{run, state_after}
use Rattle.movie_file.proofs.StateLemmas.{start_of}

-- A state is by the rules of a cartridge.
abbrev pub is_by : Cart → State → Bool
is_by (GuideCart bytes) (Guide s) = true
is_by (ChipCart cartridge) (Chip s) = true
is_by (GuideCart bytes) (Chip s) = false
is_by (ChipCart cartridge) (Guide s) = false

-- One of the cartridge is.
by_its : (c : Cart) (s : State) → IsTrue (is_of c s) → IsTrue (is_by c s)
by_its (GuideCart bytes) (Guide s) of = refl
by_its (ChipCart cartridge) (Chip s) of = refl
by_its (GuideCart bytes) (Chip s) of = absurd cc
by_its (ChipCart cartridge) (Guide s) of = absurd cc

-- A frame leaves one, too.
from_guide : (bytes : List ℕ) (outcome : OutcomeOfGuide) (new : State) (rows : Rows) (spent cycles : ℕ)
    → Some (by_guide spent outcome) ≡ Some (Played new rows cycles) → IsTrue (is_by (GuideCart bytes) new)
from_guide bytes (PlayedByGuide after picture) new rows spent cycles ends =
    let same : Guide after ≡ new = cc in
    subst (λ (x : State). IsTrue (is_by (GuideCart bytes) x)) same refl
from_guide bytes (FailedByGuide kind after) new rows spent cycles ends = absurd cc

from_chip : (cartridge : Cartridge) (outcome : OutcomeOfChip) (new : State) (rows : Rows) (cycles : ℕ)
    → Some (by_chip outcome) ≡ Some (Played new rows cycles) → IsTrue (is_by (ChipCart cartridge) new)
from_chip cartridge (PlayedByChip after picture spent) new rows cycles ends =
    let same : Chip after ≡ new = cc in
    subst (λ (x : State). IsTrue (is_by (ChipCart cartridge) x)) same refl
from_chip cartridge (FailedByChip kind) new rows cycles ends = absurd cc

stays : (c : Cart) (s new : State) (input : InputData) (rows : Rows) (cycles : ℕ)
    → frame_of c s input ≡ Some (Played new rows cycles) → IsTrue (is_by c new)
stays (GuideCart bytes) (Guide s) new input rows cycles ends =
    from_guide bytes (frame_of_guide bytes s input) new rows (cycles_of bytes s input) cycles ends
stays (ChipCart cartridge) (Chip s) new input rows cycles ends = from_chip cartridge (frame_of_chip cartridge s input) new rows cycles ends
stays (GuideCart bytes) (Chip s) new input rows cycles ends = absurd cc
stays (ChipCart cartridge) (Guide s) new input rows cycles ends = absurd cc

-- It has a frame on the cartridge.
pub frames_are : (c : Cart) (s : State) (input : InputData) → IsTrue (is_by c s) → IsSome (frame_of c s input)
frames_are (GuideCart bytes) (Guide s) input of = refl
frames_are (ChipCart cartridge) (Chip s) input of = refl
frames_are (GuideCart bytes) (Chip s) input of = absurd cc
frames_are (ChipCart cartridge) (Guide s) input of = absurd cc

module _ (m : MovieData) (movie : IsMovie m) where
  one_more : (before : State) (input : Option InputData) (s : State)
      → state_after (option_and_then (λ i. frame_of m.cartridge before i) input) ≡ Some s → IsTrue (is_by m.cartridge s)
  one_more before None s ends = absurd cc
  one_more before (Some i) s ends = by (frame_of m.cartridge before i) refl
    where
      by : (outcome : Option FrameOutcome) → frame_of m.cartridge before i ≡ outcome → IsTrue (is_by m.cartridge s)
      by (Some (Played new rows cycles)) e =
          let is : Some new ≡ Some s = rw e at ends in
          let same : new ≡ s = cc in
          rw same at (stays m.cartridge before new i rows cycles e)
      by (Some (Failed kind left)) e = absurd (let no = rw e at ends in cc)
      by None e = absurd (let no = rw e at ends in cc)

  pub run_by : (k : ℕ) (s : State) → run m m.start 0 k ≡ Some s → IsTrue (is_by m.cartridge s)
  run_by zero s ran = let same : m.start ≡ s = cc in rw same at (by_its m.cartridge m.start (start_of m movie))
  run_by (suc k) s ran = by (run m m.start 0 k) refl
    where
      by : (o : Option State) → run m m.start 0 k ≡ o → IsTrue (is_by m.cartridge s)
      by None e = absurd (let no = rw e at ran in cc)
      by (Some before) e = one_more before (slice_get m.inputs (0 + k)) s (rw e at ran)
