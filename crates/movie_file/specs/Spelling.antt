-- The bytes of a movie, field by field. The format is this project's own.
use Rattle.std.specs.Prelude.{◌≡◌, ℕ, List, [], ◌∷◌, ◌++◌, length, Option, Some, None}
use Rattle.std.specs.List.{flat_map}
use Rattle.std.specs.Int.{w16, w32, to_be_bytes}
use Rattle.cart_board.specs.Board.{Row}
use Rattle.movie_machine.specs.Carts.{board_of, bytes_of}
use Rattle.movie_machine.specs.declared.cart.Cart.{Cart}
use Rattle.vcs_machine.specs.Inputs.{input_bytes}
use Rattle.movie_file.specs.declared.checkpoint.Checkpoint.{Checkpoint}
use Rattle.movie_file.specs.Format.{magic, length_width}
use Rattle.movie_file.specs.Movie.{MovieData, IsMovie}
use Rattle.movie_file.specs.Record.{state_bytes}

-- the code of a board, if there is one
abbrev pub board_bytes : Option Row → List ℕ
board_bytes None = []
board_bytes (Some row) = row.code ∷ []

-- the magic, the version, the board and the length of the cartridge, and the numbers of frames and
-- checkpoints
abbrev pub header_of : MovieData → List ℕ
header_of m =
    magic ++ to_be_bytes w16 m.version ++ board_bytes (board_of m.cartridge)
    ++ to_be_bytes (length_width m.version) (length (bytes_of m.cartridge))
    ++ to_be_bytes w32 (length m.inputs) ++ to_be_bytes w16 (length m.checkpoints)

-- a frame number and a state, in a movie of this version with this cartridge
abbrev pub checkpoint_bytes : ℕ → Cart → Checkpoint → List ℕ
checkpoint_bytes version cartridge c = to_be_bytes w32 c.frame ++ state_bytes version cartridge c.state

-- the header, the cartridge, the start state, the inputs and the checkpoints
abbrev pub spelling : MovieData → List ℕ
spelling m =
    header_of m ++ bytes_of m.cartridge ++ state_bytes m.version m.cartridge m.start ++ flat_map input_bytes m.inputs
    ++ flat_map (checkpoint_bytes m.version m.cartridge) m.checkpoints

-- the bytes spell the movie
pub record Spells (bytes : List ℕ) (m : MovieData) : Type 0 where
  pub lawful : IsMovie m
  pub spelled : bytes ≡ spelling m
