-- The numbers of the format, and all that differs between its versions, a row each. The format is this
-- project's own; its numbers are big-endian.
use Rattle.std.specs.Prelude.{ℕ, ◌+◌, List, [], ◌∷◌, codes, Bool, true, false, ◌==◌, ◌&&◌}
use Rattle.std.specs.Prelude.{nat_le, find, unwrap_or, Option, Some, None, if◌then◌else◌}
use Rattle.std.specs.Int.{Width, w16, w32, byte_len}
use Rattle.cart_board.specs.Board.{Row, has_length}
use Rattle.cart_board.specs.Boards.{boards}
use Rattle.cart_board.specs.Record.{record_length as record_length_of_board}
use Rattle.riot_map.specs.Cart.{is_cart_length}
use Rattle.movie_machine.specs.declared.rules.Rules.{Rules}
use Rattle.movie_machine.specs.declared.rules.Rules.TheVariants.{Guide, Chip}
use Rattle.movie_file.specs.declared.format.Version.{Version}

-- the first four bytes
abbrev pub magic : List ℕ
magic = codes "A26M"

-- the bytes of a state record by the guide's rules
abbrev pub state_length : ℕ
state_length = 188

-- a row for each version; version 1 has no cartridge with banks, and its records leave out the last
-- byte, the bank
abbrev pub version_1 : Version
version_1 = record { number = 1; rules = Guide; has_wide_length = false; longest_cartridge = 4096; record_length = 187; most_frames = 65535 }

abbrev pub version_2 : Version
version_2 = record { number = 2; rules = Guide; has_wide_length = false; longest_cartridge = 8192; record_length = 188; most_frames = 262143 }

-- version 3 is of cartridges on boards, by the chip's rules
abbrev pub version_3 : Version
version_3 = record { number = 3; rules = Chip; has_wide_length = true; longest_cartridge = 524288; record_length = 206; most_frames = 262143 }

abbrev pub versions : List Version
versions = version_1 ∷ version_2 ∷ version_3 ∷ []

-- the row of a version; another number has that of version 2
abbrev pub row_of : ℕ → Version
row_of version = unwrap_or (find (λ row. row.number == version) versions) version_2

abbrev pub is_version : ℕ → Bool
is_version version = (row_of version).number == version

-- the rules of a version's movies
abbrev pub rules_by : ℕ → Rules
rules_by version = (row_of version).rules

-- the board of a cartridge in a header: a byte by the chip's rules, and none by the guide's
abbrev pub names_board : Rules → Bool
names_board Guide = false
names_board Chip = true

abbrev pub has_board : ℕ → Bool
has_board version = names_board (rules_by version)

-- the board of a code
abbrev pub board_of_code : ℕ → Option Row
board_of_code code = find (λ row. row.code == code) boards

-- the length of a cartridge in a header: of four bytes, or of two
abbrev pub length_width : ℕ → Width
length_width version = if (row_of version).has_wide_length then w32 else w16

-- the bytes of a header: magic, version, board, length, frames and checkpoints
abbrev pub header_length : ℕ → ℕ
header_length version = 4 + 2 + (if has_board version then 1 else 0) + byte_len (length_width version) + 4 + 2

-- the lengths of cartridges, on a board those of the board
abbrev pub is_length : Option Row → ℕ → Bool
is_length None cartridge_length = is_cart_length cartridge_length
is_length (Some row) cartridge_length = has_length row cartridge_length

-- the cartridges of a version, by their board and their length
abbrev pub takes_cart : ℕ → Option Row → ℕ → Bool
takes_cart version board cartridge_length =
    is_length board cartridge_length && nat_le cartridge_length (row_of version).longest_cartridge

-- a movie has 1 frame up to so many
abbrev pub most_frames : ℕ → ℕ
most_frames version = (row_of version).most_frames

-- and 0 to 4,095 checkpoints
abbrev pub most_checkpoints : ℕ
most_checkpoints = 4095

-- the bytes of a state record in a movie; a board adds its bank bytes and its RAM
abbrev pub record_length : ℕ → Option Row → ℕ
record_length version None = (row_of version).record_length
record_length version (Some row) = (row_of version).record_length + record_length_of_board row

-- the bytes of an input
abbrev pub input_length : ℕ
input_length = 3

-- the bytes of a checkpoint: its frame number, and the record of its state
abbrev pub checkpoint_length : ℕ → Option Row → ℕ
checkpoint_length version board = 4 + record_length version board
