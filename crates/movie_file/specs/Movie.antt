-- What a movie is, wherever it lies in memory. This project's own.
use Rattle.std.specs.Prelude.{◌≡◌, ℕ, ◌<◌, ◌≤◌, ◌^◌, List, [], ◌∷◌, length, IsTrue, IfSome}
use Rattle.std.specs.List.{AllByRecursion}
use Rattle.cart_board.specs.Boards.{IsBoard}
use Rattle.chip_machine.specs.Record.{IsStateOf as IsStateByChip}
use Rattle.movie_machine.specs.Carts.{board_of, bytes_of, rules_of}
use Rattle.movie_machine.specs.States.{is_of}
use Rattle.movie_machine.specs.declared.cart.Cart.{Cart}
use Rattle.movie_machine.specs.declared.cart.Cart.TheVariants.{Guide as GuideCart, Chip as ChipCart}
use Rattle.movie_machine.specs.declared.state.State.{State}
use Rattle.movie_machine.specs.declared.state.State.TheVariants.{Guide, Chip}
use Rattle.vcs_machine.specs.Inputs.{InputData, is_input}
use Rattle.vcs_machine.specs.States.{is_state}
use Rattle.vcs_machine.specs.declared.fields.StateFields.{StateFields}
use Rattle.movie_file.specs.declared.checkpoint.Checkpoint.{Checkpoint}
use Rattle.movie_file.specs.Format.{is_version, rules_by, takes_cart, most_frames, most_checkpoints}
use Rattle.movie_file.specs.Record.{fits_bank}

-- inputs are those of frames 1, 2, .., and checkpoints have the numbers 1, 2, ..
pub record MovieData : Type 0 where
  pub version : ℕ
  pub cartridge : Cart
  pub start : State
  pub inputs : List InputData
  pub checkpoints : List Checkpoint

-- numbers that meet the conditions of a state record by the guide's rules, in the ranges of their types
pub record IsState (f : StateFields) : Type 0 where
  pub lawful : IsTrue (is_state f)
  pub pc : f.cpu.pc < 2 ^ 16
  pub part : f.riot.part < 2 ^ 16
  pub collisions : f.tia.collisions < 2 ^ 16
  pub ram : length f.riot.ram ≡ 128

-- a state of a console with a cartridge of so many bytes: without banks its bank is 0
pub record IsStateWith (cartridge_length : ℕ) (f : StateFields) : Type 0 where
  pub state : IsState f
  pub bank : IsTrue (fits_bank cartridge_length f)

-- a state of a console with this cartridge, by the cartridge's rules
abbrev pub IsStateOf : Cart → State → Type 0
IsStateOf (GuideCart bytes) (Guide f) = IsStateWith (length bytes) f
IsStateOf (ChipCart cartridge) (Chip s) = IsStateByChip cartridge s
IsStateOf (GuideCart bytes) (Chip s) = ⊥
IsStateOf (ChipCart cartridge) (Guide f) = ⊥

-- a state that a movie can claim, of each cartridge of which it is one
abbrev pub CanBeClaimed : State → Type 0
CanBeClaimed s = (cartridge : Cart) → IsTrue (is_of cartridge s) → IsStateOf cartridge s

-- each frame number is greater than the one before it, and none is above n; each claimed state is
-- one of the cartridge
abbrev pub AreCheckpoints : Cart → ℕ → ℕ → List Checkpoint → Type 0
AreCheckpoints cartridge last n [] = Unit {0}
AreCheckpoints cartridge last n (c ∷ cs) =
    (last < c.frame) × (c.frame ≤ n) × IsStateOf cartridge c.state × AreCheckpoints cartridge c.frame n cs

-- what a movie keeps to
pub record IsMovie (m : MovieData) : Type 0 where
  pub version : IsTrue (is_version m.version)
  pub rules : rules_of m.cartridge ≡ rules_by m.version
  pub board : IfSome (board_of m.cartridge) IsBoard
  pub cartridge : IsTrue (takes_cart m.version (board_of m.cartridge) (length (bytes_of m.cartridge)))
  pub start : IsStateOf m.cartridge m.start
  pub some_frames : 1 ≤ length m.inputs
  pub few_frames : length m.inputs ≤ most_frames m.version
  pub few_checkpoints : length m.checkpoints ≤ most_checkpoints
  pub inputs : AllByRecursion (λ i. IsTrue (is_input i)) m.inputs
  pub checkpoints : AreCheckpoints m.cartridge 0 (length m.inputs) m.checkpoints
