-- Cartridges, each by the rules of one console. This project's own.
use Rattle.std.specs.Prelude.{ℕ, List, length, IsTrue, Option, Some, None}
use Rattle.cart_board.specs.Board.{Row, has_length}
use Rattle.cart_board.specs.Boards.{IsBoard}
use Rattle.riot_map.specs.Cart.{is_cart_length}
use Rattle.movie_machine.specs.declared.cart.Cart.{Cart}
use Rattle.movie_machine.specs.declared.cart.Cart.TheVariants.{Guide, Chip}
use Rattle.movie_machine.specs.declared.rules.Rules.{Rules}
use Rattle.movie_machine.specs.declared.rules.Rules.TheVariants.{Guide as ByGuide, Chip as ByChip}

-- The rules by which a cartridge is played.
abbrev pub rules_of : Cart → Rules
rules_of (Guide bytes) = ByGuide
rules_of (Chip cartridge) = ByChip

-- Its bytes. By the guide's rules it is nothing else; by the chip's it is on a board.
abbrev pub bytes_of : Cart → List ℕ
bytes_of (Guide bytes) = bytes
bytes_of (Chip cartridge) = cartridge.bytes

-- The board that it is on. By the guide's rules it is on none.
abbrev pub board_of : Cart → Option Row
board_of (Guide bytes) = None
board_of (Chip cartridge) = Some cartridge.row

-- The rules of a cartridge on a board, and of one on none.
abbrev pub rules_on : Option Row → Rules
rules_on None = ByGuide
rules_on (Some row) = ByChip

-- The cartridge of these bytes: on a board by the chip's rules, on none by the guide's.
abbrev pub cart_on : Option Row → List ℕ → Cart
cart_on None bytes = Guide bytes
cart_on (Some row) bytes = Chip (record { row = row; bytes = bytes })

-- How many bytes of RAM it has. By the guide's rules none has some.
abbrev pub ram_length : Cart → ℕ
ram_length (Guide bytes) = 0
ram_length (Chip cartridge) = cartridge.row.ram

-- What a cartridge keeps to: its length is one that is taken, by the chip's rules on a board of the table.
abbrev pub IsCart : Cart → Type 0
IsCart (Guide bytes) = IsTrue (is_cart_length (length bytes))
IsCart (Chip cartridge) = IsBoard cartridge.row × IsTrue (has_length cartridge.row (length cartridge.bytes))
