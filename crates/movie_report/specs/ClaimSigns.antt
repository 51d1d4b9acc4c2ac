-- In which of a movie's claims its run is. This project's own.
use Rattle.std.specs.Prelude.{Option, Some, None, List, map, if◌then◌else◌}
use Rattle.std.specs.Str.{bytes_eq}
use Rattle.movie_machine.specs.declared.cart.Cart.{Cart}
use Rattle.movie_machine.specs.declared.state.State.{State}
use Rattle.movie_file.specs.Movie.{MovieData}
use Rattle.movie_file.specs.Record.{record_in}
use Rattle.movie_file.specs.Run.{run}
use Rattle.movie_file.specs.declared.checkpoint.Checkpoint.{Checkpoint}
use Rattle.movie_report.specs.declared.segments.Sign.{Sign}
use Rattle.movie_report.specs.declared.segments.Sign.TheVariants.{Passes, Differs, Faults}

-- A run with a cartridge that is in this state, or has faulted, is in a claimed state, in another, or in none.
abbrev pub sign_in : Cart → State → Option State → Sign
sign_in cartridge claimed None = Faults
sign_in cartridge claimed (Some found) = if bytes_eq (record_in cartridge claimed) (record_in cartridge found) then Passes else Differs

-- Whether a movie's one unbroken run, which goes on from its own states whatever is claimed, is in the state of a claim.
abbrev pub claim_sign : MovieData → Checkpoint → Sign
claim_sign m c = sign_in m.cartridge c.state (run m m.start 0 c.frame)

unfoldable pub claim_signs : MovieData → List Sign
claim_signs m = map (claim_sign m) m.checkpoints
