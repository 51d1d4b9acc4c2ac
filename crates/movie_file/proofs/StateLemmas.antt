-- States of a movie are states of its cartridge.
use Rattle.std.proofs.Common.{◌≡◌, ◌<◌, ◌^◌, ℕ, length, refl}
use Rattle.std.specs.Prelude.{IsTrue, Some, slice_get, ◌==◌}
use Rattle.std.proofs.lemmas.Bool.{and_parts, eqb-true, false≢true}
use Rattle.cart_board.specs.CartState.{are_banks}
use Rattle.chip_machine.specs.States.{StateData, is_state as is_state_by_chip}
use Rattle.vcs_machine.specs.declared.fields.StateFields.{StateFields}
use Rattle.movie_machine.specs.Carts.{ram_length}
use Rattle.movie_machine.specs.States.{is_of, ram_of}
use Rattle.movie_machine.specs.declared.cart.Cart.{Cart}
use Rattle.movie_machine.specs.declared.cart.Cart.TheVariants.{Guide as GuideCart, Chip as ChipCart}
use Rattle.movie_machine.specs.declared.state.State.{State}
use Rattle.movie_machine.specs.declared.state.State.TheVariants.{Guide, Chip}
use Rattle.movie_file.specs.Movie.{CanBeClaimed, MovieData, IsMovie, IsState, IsStateOf}
use Rattle.movie_file.specs.declared.checkpoint.Checkpoint.{Checkpoint}
use Rattle.movie_file.proofs.CheckpointLemmas.{checkpoint_in_range}

pub of_state : (c : Cart) (s : State) → IsStateOf c s → IsTrue (is_of c s)
of_state (GuideCart bytes) (Guide f) h = h.bank
of_state (ChipCart cartridge) (Chip s) h = h.cart
of_state (GuideCart bytes) (Chip s) h = absurd h
of_state (ChipCart cartridge) (Guide f) h = absurd h

-- numbers that are lawful, in the ranges of their types, can be claimed
pub by_guide : (f : StateFields) → IsState f → CanBeClaimed (Guide f)
by_guide f state (GuideCart bytes) of = record { state = state; bank = of }
by_guide f state (ChipCart cartridge) of = absurd (false≢true of)

pub by_chip : (s : StateData) → IsTrue (is_state_by_chip s.fields) → s.fields.cpu.pc < 2 ^ 16 → length s.fields.riot.ram ≡ 128
    → length s.fields.banks ≡ 3
    → CanBeClaimed (Chip s)
by_chip s numbers pc memory banks (ChipCart cartridge) of = record { numbers = numbers; cart = of; pc = pc; memory = memory; banks = banks }
by_chip s numbers pc memory banks (GuideCart bytes) of = absurd (false≢true of)

-- the RAM of a state is as long as its cartridge's
pub ram_is : (c : Cart) (s : State) → IsTrue (is_of c s) → length (ram_of s) ≡ ram_length c
ram_is (GuideCart bytes) (Guide f) of = refl
ram_is (ChipCart cartridge) (Chip s) of =
    eqb-true (length s.ram) cartridge.row.ram
    (and_parts (are_banks cartridge.row (length cartridge.bytes) s.fields.banks) (length s.ram == cartridge.row.ram) of).1
ram_is (GuideCart bytes) (Chip s) of = absurd (false≢true of)
ram_is (ChipCart cartridge) (Guide f) of = absurd (false≢true of)

module _ (m : MovieData) (movie : IsMovie m) where
  pub start_of : IsTrue (is_of m.cartridge m.start)
  start_of = of_state m.cartridge m.start movie.start

  pub claim_of : (j : ℕ) (c : Checkpoint) → slice_get m.checkpoints j ≡ Some c → IsTrue (is_of m.cartridge c.state)
  claim_of j c at = of_state m.cartridge c.state (checkpoint_in_range m.cartridge m.checkpoints 0 (length m.inputs) j c movie.checkpoints at).2
