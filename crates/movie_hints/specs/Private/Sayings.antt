-- What the header of a file says, as the code has it. This project's own.
use Rattle.std.specs.Prelude.{◌≡◌, ℕ, List}
use Rattle.cart_board.specs.Known.{known_row}
use Rattle.movie_hints.specs.Places.{board_in, count_in, frames_in, length_in, version_in}
use Rattle.movie_hints.specs.declared.places.Places.{Places}

pub record IsSaid (bytes : List ℕ) (p : Places) : Type 0 where
  pub version : p.version ≡ version_in bytes
  pub board : known_row p.board ≡ board_in bytes
  pub cartridge : p.cartridge ≡ length_in bytes
  pub frames : p.frames ≡ frames_in bytes
  pub checkpoints : p.checkpoints ≡ count_in bytes
