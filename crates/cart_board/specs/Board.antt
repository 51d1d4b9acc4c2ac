-- A board as a row of a table: how the bytes of a cartridge, and the RAM that some boards have, are
-- wired to the 13 address lines of the console's cartridge slot. The form of the row is this
-- project's own.
use Rattle.std.specs.Prelude.{ℕ, List, Option, Some, None, ◌-◌, ◌/◌, Bool, slice_get}
use Rattle.std.specs.Prelude.{nat_eq, min}
use Rattle.std.specs.List.{list_any}
use Rattle.cart_board.specs.declared.bank.BankByte.{BankByte}
use Rattle.cart_board.specs.declared.bank.BankByte.TheVariants.{First, Second, Third}
use Rattle.cart_board.specs.declared.bank.LastBank.{LastBank}
use Rattle.cart_board.specs.declared.bank.LastBank.TheVariants.{Number, ByLength}
use Rattle.cart_board.specs.declared.bank.BankNumbers.{BankNumbers}
use Rattle.cart_board.specs.declared.hot_spot.HotSpot.{HotSpot}
use Rattle.cart_board.specs.declared.window.Slice.{Slice}
use Rattle.cart_board.specs.declared.window.Window.{Window}
use Rattle.cart_board.specs.declared.board.Board.{Board}

-- A row. Its fields are those of the code's `Board`, as lists:
pub record Row : Type 0 where
  -- the number that stands for the board in a movie
  pub code : ℕ
  pub name : List ℕ
  -- how many bytes its cartridges can have
  pub lengths : List ℕ
  -- its bank bytes, up to three: the numbers of what is selected
  pub banks : List BankNumbers
  -- the addresses that select
  pub hot_spots : List HotSpot
  -- the address after which the byte of the next access selects
  pub trigger : Option ℕ
  -- how many bytes of RAM it has
  pub ram : ℕ
  -- what some of its addresses lead to; the first window that an address is in counts
  pub windows : List Window
  -- the ROM that the others lead to
  pub rest : Slice

abbrev pub row_of : Board → Row
row_of board = record {
  code = board.code;
  name = board.name.now;
  lengths = board.lengths.now;
  banks = board.banks.now;
  hot_spots = board.hot_spots.now;
  trigger = board.trigger;
  ram = board.ram;
  windows = board.windows.now;
  rest = board.rest;
}

-- A cartridge can have so many bytes on this board.
abbrev pub has_length : Row → ℕ → Bool
has_length row bytes = list_any (nat_eq bytes) row.lengths

-- ---- bank bytes

-- The place of a bank byte among the three.
abbrev pub index_of : BankByte → ℕ
index_of First = 0
index_of Second = 1
index_of Third = 2

-- The last bank that a bank byte can select, of a cartridge of so many bytes: a number, or that of
-- the last 2048 bytes, at most 255.
abbrev pub last_number : LastBank → ℕ → ℕ
last_number (Number n) bytes = n
last_number ByLength bytes = min (bytes / 2048 - 1) 255

-- The same by the numbers of a bank byte. One that a board hasn't is 0.
abbrev pub last_of : Option BankNumbers → ℕ → ℕ
last_of None bytes = 0
last_of (Some numbers) bytes = last_number numbers.last bytes

abbrev pub last_bank : Row → ℕ → BankByte → ℕ
last_bank row bytes byte = last_of (slice_get row.banks (index_of byte)) bytes
