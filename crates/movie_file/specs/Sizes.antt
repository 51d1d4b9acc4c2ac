-- What the header of a movie says. This project's own.
use Rattle.std.specs.Prelude.{ℕ, Option}
use Rattle.cart_board.specs.Board.{Row}
use Rattle.cart_board.specs.Known.{known_row}
use Rattle.movie_file.specs.declared.reading.sizes.Sizes.{Sizes}

-- the version; the board of the cartridge, if the header names one, and its bytes; and how many frames
-- and checkpoints there are
pub record SizesData : Type 0 where
  pub version : ℕ
  pub board : Option Row
  pub cartridge_length : ℕ
  pub frames : ℕ
  pub checkpoints : ℕ

abbrev pub sizes_of : Sizes → SizesData
sizes_of s = record {
  version = s.version;
  board = known_row s.board;
  cartridge_length = s.cartridge_length;
  frames = s.frames;
  checkpoints = s.checkpoints;
}
