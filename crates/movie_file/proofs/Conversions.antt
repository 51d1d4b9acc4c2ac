-- A movie in version 2 is the movie.
use Rattle.std.proofs.Common.{◌≡◌, ℕ, ◌+◌, length, refl, sym, ◌∙◌, arith}
use Rattle.std.specs.Prelude.{IsTrue}
use Rattle.std.proofs.lemmas.Bool.Decides.{nat_tests}
use Rattle.vcs_machine.specs.declared.fault.FaultKind.{FaultKind}
use Rattle.movie_machine.specs.Carts.{board_of, bytes_of, rules_of}
use Rattle.movie_machine.specs.declared.cart.Cart.{Cart}
use Rattle.movie_machine.specs.declared.cart.Cart.TheVariants.{Guide as GuideCart, Chip as ChipCart}
use Rattle.movie_machine.specs.declared.rules.Rules.TheVariants.{Guide as ByGuide}
use Rattle.movie_machine.specs.declared.state.State.{State}
use Rattle.movie_file.specs.Format.{takes_cart}
use Rattle.movie_file.specs.Conversion.{in_version_2}
use Rattle.movie_file.specs.Judgement.{IsSound, FaultsAt, IsFalseAt}
use Rattle.movie_file.specs.Movie.{MovieData, IsMovie}
use Rattle.movie_file.specs.Run.{run}
use Rattle.movie_file.proofs.VersionLemmas.{most_frames-most}
use Rattle.movie_file.proofs.RunLemmas.{run_same}

-- version 2 has the cartridges by the guide's rules
takes_guide : (cartridge : Cart) (version : ℕ) → rules_of cartridge ≡ ByGuide → IsTrue (takes_cart version (board_of cartridge) (length (bytes_of cartridge)))
    → IsTrue (takes_cart 2 (board_of cartridge) (length (bytes_of cartridge)))
takes_guide (GuideCart bytes) version rules takes = grind (arith, nat_tests)
takes_guide (ChipCart cartridge) version rules takes = absurd cc

-- and room for each movie by them
pub converted-lawful : (m : MovieData) → IsMovie m → rules_of m.cartridge ≡ ByGuide → IsMovie (in_version_2 m)
converted-lawful m h rules = record {
  version = refl;
  rules = rules;
  board = h.board;
  cartridge = takes_guide m.cartridge m.version rules h.cartridge;
  start = h.start;
  some_frames = h.some_frames;
  few_frames = omega (arith, h.few_frames, most_frames-most m.version);
  few_checkpoints = h.few_checkpoints;
  inputs = h.inputs;
  checkpoints = h.checkpoints;
}

-- a run knows nothing of the version
pub run-converted : (m : MovieData) (s : State) (from k : ℕ) → run (in_version_2 m) s from k ≡ run m s from k
run-converted m s from k = run_same (in_version_2 m) m s from k refl refl

pub sound-converted : (m : MovieData) (s : State) (from k : ℕ) → IsSound m s from k → IsSound (in_version_2 m) s from k
sound-converted m s from k sound = (sound.0, run-converted m s from (k + 1) ∙ sound.1, sound.2)

pub sound-back : (m : MovieData) (s : State) (from k : ℕ) → IsSound (in_version_2 m) s from k → IsSound m s from k
sound-back m s from k sound = (sound.0, sym (run-converted m s from (k + 1)) ∙ sound.1, sound.2)

pub faults-converted : (m : MovieData) (s : State) (from k : ℕ) (kind : FaultKind) → FaultsAt m s from k kind → FaultsAt (in_version_2 m) s from k kind
faults-converted m s from k kind (state, left, ran, faults) = (state, left, run-converted m s from k ∙ ran, faults)

pub faults-back : (m : MovieData) (s : State) (from k : ℕ) (kind : FaultKind) → FaultsAt (in_version_2 m) s from k kind → FaultsAt m s from k kind
faults-back m s from k kind (state, left, ran, faults) = (state, left, sym (run-converted m s from k) ∙ ran, faults)

pub false-converted : (m : MovieData) (s : State) (from k number : ℕ) → IsFalseAt m s from k number → IsFalseAt (in_version_2 m) s from k number
false-converted m s from k number (state, j, c, ran, is, at, here, other) = (state, j, c, run-converted m s from (k + 1) ∙ ran, is, at, here, other)

pub false-back : (m : MovieData) (s : State) (from k number : ℕ) → IsFalseAt (in_version_2 m) s from k number → IsFalseAt m s from k number
false-back m s from k number (state, j, c, ran, is, at, here, other) = (state, j, c, sym (run-converted m s from (k + 1)) ∙ ran, is, at, here, other)
