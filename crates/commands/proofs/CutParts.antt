-- The parts of a cut make a movie, and that is the cut.
use Rattle.std.proofs.Common.{◌≡◌, ℕ, ◌+◌, ◌-◌, List, length, take, drop, Some, arith}
use Rattle.std.specs.Prelude.{IfSome, IsTrue, nat_le, slice_range}
use Rattle.std.proofs.lemmas.Bool.{and_parts}
use Rattle.std.proofs.lemmas.List.{length-take, take_min}
use Rattle.std.proofs.lemmas.List.Elements.{All-drop, All-from_recursion, All-take, recursion_from_All}
use Rattle.cart_board.specs.Board.{has_length}
use Rattle.cart_board.specs.Boards.{IsBoard}
use Rattle.riot_map.specs.Cart.{is_cart_length}
use Rattle.movie_machine.specs.Carts.{IsCart, board_of, bytes_of}
use Rattle.movie_machine.specs.declared.cart.Cart.{Cart}
use Rattle.movie_machine.specs.declared.cart.Cart.TheVariants.{Guide, Chip}
use Rattle.movie_file.specs.Format.{row_of, takes_cart}
use Rattle.movie_machine.specs.declared.state.State.{State}
use Rattle.vcs_machine.specs.Inputs.{InputData, is_input}
use Rattle.movie_file.specs.Making.{counts_fit, version_made}
use Rattle.movie_file.specs.Movie.{MovieData, IsMovie, IsStateOf}
use Rattle.movie_file.specs.ClaimedStates.{Claims}
use Rattle.movie_file.specs.Run.{run}
use Rattle.movie_file.specs.declared.checkpoint.Checkpoint.{Checkpoint}
use Rattle.movie_file.proofs.InputLemmas.{AreInputs}
use Rattle.movie_file.proofs.MakingRuns.{IsMovie-parts, parts}
use Rattle.commands.specs.Cut.{IsCutOf}
use Rattle.commands.specs.AskedFrames.{inputs_asked, frames_asked, Ends}

-- the cartridge of a movie is one
cart_of : (version : ℕ) (cartridge : Cart) → IfSome (board_of cartridge) IsBoard
    → IsTrue (takes_cart version (board_of cartridge) (length (bytes_of cartridge))) → IsCart cartridge
cart_of version (Guide bytes) board takes = (and_parts (is_cart_length (length bytes)) (nat_le (length bytes) (row_of version).longest_cartridge) takes).0
cart_of version (Chip cartridge) board takes =
    let bytes = length cartridge.bytes in
    (board, (and_parts (has_length cartridge.row bytes) (nat_le bytes (row_of version).longest_cartridge) takes).0)

-- the inputs that are asked for are lawful, as all of the movie's are
asked_lawful : (m : MovieData) (first count : ℕ) → AreInputs m.inputs → AreInputs (inputs_asked m first count)
asked_lawful m first count all =
    let lawful = λ (i : InputData). IsTrue (is_input i) in
    let rest = drop (first - 1) m.inputs in
    recursion_from_All lawful (take count rest) (All-take lawful count rest (All-drop lawful (first - 1) m.inputs (All-from_recursion lawful m.inputs all)))

module _ (m : MovieData) (first count : ℕ) {every got frames version : ℕ} {cartridge : Cart} {start : State}
    {all inputs : List InputData} {cs : List Checkpoint}
    (got_is : got ≡ first) (frames_is : frames ≡ frames_asked m first count) (all_is : all ≡ m.inputs)
    (taken : inputs ≡ slice_range all (got - 1) (got - 1 + frames)) (cartridge_is : cartridge ≡ m.cartridge) (version_is : version ≡ version_made cartridge frames)
    (ran : run m m.start 0 (got - 1) ≡ Some start) (far : Claims m (got - 1) every frames cs) where
  asked : inputs ≡ inputs_asked m first count
  asked =
      let len : got - 1 + frames - (got - 1) ≡ frames = omega arith in
      rw (taken, len, all_is, got_is, frames_is, length-take count) (take_min count (drop (first - 1) m.inputs))

  frames_are : frames ≡ length inputs
  frames_are = rw asked frames_is

  pub IsMovie-cut : IsMovie m → IsTrue (counts_fit frames every) → IsStateOf cartridge start
      → IsMovie (parts version cartridge start inputs cs)
  IsMovie-cut movie fits state =
      let lawful : IsCart cartridge = rw cartridge_is (cart_of m.version m.cartridge movie.board movie.cartridge) in
      IsMovie-parts m (got - 1) every version cartridge start inputs cs cartridge_is (rw frames_are at version_is) (rw frames_are at fits)
      (rw frames_are at far) lawful state (rw asked (asked_lawful m first count movie.inputs))

  pub IsCutOf-parts : Ends m (got - 1 + frames) → IsCutOf m first count every (parts version cartridge start inputs cs)
  IsCutOf-parts ends =
      let here = rw (got_is, frames_are) at far in
      record {
        version = rw frames_are at version_is;
        cartridge_is = cartridge_is;
        start = rw got_is at ran;
        inputs_are = asked;
        ends = rw (got_is, frames_are) at ends;
        count_is = here.count;
        places = here.places;
        states = here.states;
      }
