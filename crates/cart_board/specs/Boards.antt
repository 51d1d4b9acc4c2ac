-- The boards, a row each, in the order of their codes. The addresses of hot spots and ports, the
-- lengths of banks, and the banks at power-on are those that Stella 6.7 was measured to have, but
-- where another source is named. The codes are this project's own.
use Rattle.std.specs.Prelude.{ℕ, List, [], ◌∷◌, ◌++◌, Some, None, ◌+◌, ◌≡◌, codes, map, slice_get}
use Rattle.std.specs.List.{range_with_len}
use Rattle.cart_board.specs.Board.{Row}
use Rattle.cart_board.specs.declared.bank.BankByte.{BankByte}
use Rattle.cart_board.specs.declared.bank.BankByte.TheVariants.{First, Second, Third}
use Rattle.cart_board.specs.declared.bank.BankNumbers.{BankNumbers}
use Rattle.cart_board.specs.declared.bank.LastBank.TheVariants.{Number, ByLength}
use Rattle.cart_board.specs.declared.hot_spot.HotSpot.{HotSpot}
use Rattle.cart_board.specs.declared.hot_spot.Selects.{Selects}
use Rattle.cart_board.specs.declared.hot_spot.Selects.TheVariants.{Bank, Next, Written}
use Rattle.cart_board.specs.declared.window.Kind.{Kind}
use Rattle.cart_board.specs.declared.window.Kind.TheVariants.{Rom, ReadPort, WritePort}
use Rattle.cart_board.specs.declared.window.Slice.{Slice}
use Rattle.cart_board.specs.declared.window.Start.{Start}
use Rattle.cart_board.specs.declared.window.Start.TheVariants as start
use Rattle.cart_board.specs.declared.window.When.TheVariants as when
use Rattle.cart_board.specs.declared.window.Window.{Window}

-- ---- the parts of a row

-- A bank byte that can be 0 up to this number, and what it is at power-on.
abbrev pub banks_to : ℕ → ℕ → BankNumbers
banks_to last power_on = record { last = Number last; power_on = power_on }

-- A hot spot at the addresses whose lines in this mask have a value.
abbrev pub at_lines : ℕ → ℕ → BankByte → Selects → HotSpot
at_lines mask value byte selects = record { mask = mask; value = value; byte = byte; selects = selects }

-- A hot spot at one address of 13 lines.
abbrev pub at : ℕ → BankByte → Selects → HotSpot
at address byte selects = at_lines 0x1FFF address byte selects

-- Hot spots at so many addresses from the first on, which select banks 0, 1, and so on.
abbrev pub numbered : ℕ → BankByte → ℕ → List HotSpot
numbered first byte count = map (λ n. at (first + n) byte (Bank n)) (range_with_len 0 count)

abbrev pub slice : Start → ℕ → Slice
slice start mask = record { start = start; mask = mask }

-- The last bytes of the cartridge, one more than the mask.
abbrev pub last : ℕ → Slice
last mask = slice start.Last mask

-- The bank that a bank byte selects.
abbrev pub bank : BankByte → ℕ → Slice
bank byte mask = slice (start.Bank 0 byte) mask

abbrev pub window : ℕ → ℕ → Kind → Slice → Window
window first last kind slice = record { first = first; last = last; when = when.Always; kind = kind; slice = slice }

-- The two ports of a RAM in the lowest addresses, for writing and then for reading.
abbrev pub ports : ℕ → List Window
ports mask =
    window 0 mask WritePort (slice (start.At 0) mask)
    ∷ window (mask + 1) (mask + mask + 1) ReadPort (slice (start.At 0) mask)
    ∷ []

-- A board with 4096 bytes at a time, which these hot spots select.
abbrev pub in_banks : ℕ → List ℕ → ℕ → BankNumbers → List HotSpot → Row
in_banks code name length numbers hot_spots = record {
  code = code;
  name = name;
  lengths = length ∷ [];
  banks = numbers ∷ [];
  hot_spots = hot_spots;
  trigger = None;
  ram = 0;
  windows = [];
  rest = bank First 0x0FFF;
}

-- The same with RAM, one byte more than the mask.
abbrev pub in_banks_with_ram : ℕ → List ℕ → ℕ → BankNumbers → List HotSpot → ℕ → Row
in_banks_with_ram code name length numbers hot_spots mask =
    record (in_banks code name length numbers hot_spots) { ram = mask + 1; windows = ports mask }

-- A board without banks, whose cartridges have one byte more than the mask.
abbrev pub unbanked : ℕ → List ℕ → ℕ → Row
unbanked code name mask = record {
  code = code;
  name = name;
  lengths = (mask + 1) ∷ [];
  banks = [];
  hot_spots = [];
  trigger = None;
  ram = 0;
  windows = [];
  rest = last mask;
}

-- ---- the rows

-- The cartridges of the Stella Programmer's Guide.
abbrev pub board_2k : Row
board_2k = unbanked 0 (codes "2K") 0x07FF

abbrev pub board_4k : Row
board_4k = unbanked 1 (codes "4K") 0x0FFF

-- Atari's boards, and the same with 128 bytes of RAM.
abbrev pub board_f8 : Row
board_f8 = in_banks 2 (codes "F8") 8192 (banks_to 1 1) (numbered 0x1FF8 First 2)

abbrev pub board_f8sc : Row
board_f8sc = in_banks_with_ram 3 (codes "F8SC") 8192 (banks_to 1 1) (numbered 0x1FF8 First 2) 0x7F

abbrev pub board_f6 : Row
board_f6 = in_banks 4 (codes "F6") 16384 (banks_to 3 0) (numbered 0x1FF6 First 4)

abbrev pub board_f6sc : Row
board_f6sc = in_banks_with_ram 5 (codes "F6SC") 16384 (banks_to 3 0) (numbered 0x1FF6 First 4) 0x7F

abbrev pub board_f4 : Row
board_f4 = in_banks 6 (codes "F4") 32768 (banks_to 7 0) (numbered 0x1FF4 First 8)

abbrev pub board_f4sc : Row
board_f4sc = in_banks_with_ram 7 (codes "F4SC") 32768 (banks_to 7 0) (numbered 0x1FF4 First 8) 0x7F

-- CBS's board.
abbrev pub board_fa : Row
board_fa = in_banks_with_ram 8 (codes "FA") 12288 (banks_to 2 2) (numbered 0x1FF8 First 3) 0xFF

-- Parker Brothers' board: three windows of 1024 bytes, and the last 1024 bytes above them.
abbrev pub board_e0 : Row
board_e0 = record {
  code = 9;
  name = codes "E0";
  lengths = 8192 ∷ [];
  banks = banks_to 7 4 ∷ banks_to 7 5 ∷ banks_to 7 6 ∷ [];
  hot_spots = numbered 0x1FE0 First 8 ++ numbered 0x1FE8 Second 8 ++ numbered 0x1FF0 Third 8;
  trigger = None;
  ram = 0;
  windows =
      window 0 0x03FF Rom (bank First 0x03FF)
      ∷ window 0x0400 0x07FF Rom (bank Second 0x03FF)
      ∷ window 0x0800 0x0BFF Rom (bank Third 0x03FF)
      ∷ [];
  rest = last 0x03FF;
}

-- Tigervision's board: a write to the lowest 64 addresses, which lead to the TIA, selects the lower
-- 2048 bytes; the upper ones are the cartridge's last.
abbrev pub board_3f : Row
board_3f = record {
  code = 10;
  name = codes "3F";
  lengths = 8192 ∷ 16384 ∷ 32768 ∷ 65536 ∷ 131072 ∷ 262144 ∷ 524288 ∷ [];
  banks = record { last = ByLength; power_on = 0 } ∷ [];
  hot_spots = at_lines 0x1FC0 0 First Written ∷ [];
  trigger = None;
  ram = 0;
  windows = window 0 0x07FF Rom (bank First 0x07FF) ∷ [];
  rest = last 0x07FF;
}

-- Activision's board (US patent 4,432,067): the byte after an access to 01FE selects. Its second
-- bank byte is 1 after such an access.
abbrev pub board_fe : Row
board_fe = record {
  code = 11;
  name = codes "FE";
  lengths = 8192 ∷ [];
  banks = banks_to 1 0 ∷ banks_to 1 0 ∷ [];
  hot_spots = [];
  trigger = Some 0x01FE;
  ram = 0;
  windows = [];
  rest = bank First 0x0FFF;
}

-- M Network's board: the lower 2048 bytes are one of the first seven banks, or 1024 bytes of RAM;
-- above them 256 bytes more of RAM are selected, and then the last 2048 bytes follow.
abbrev pub board_e7 : Row
board_e7 = record {
  code = 12;
  name = codes "E7";
  lengths = 16384 ∷ [];
  banks = banks_to 7 0 ∷ banks_to 3 0 ∷ [];
  hot_spots = numbered 0x1FE0 First 8 ++ numbered 0x1FE8 Second 4;
  trigger = None;
  ram = 2048;
  windows =
      record { first = 0; last = 0x03FF; when = when.Bank First 7; kind = WritePort; slice = slice (start.At 0) 0x03FF }
      ∷ record { first = 0x0400; last = 0x07FF; when = when.Bank First 7; kind = ReadPort; slice = slice (start.At 0) 0x03FF }
      ∷ window 0 0x07FF Rom (bank First 0x07FF)
      ∷ window 0x0800 0x08FF WritePort (slice (start.Bank 1024 Second) 0xFF)
      ∷ window 0x0900 0x09FF ReadPort (slice (start.Bank 1024 Second) 0xFF)
      ∷ [];
  rest = last 0x07FF;
}

-- UA Limited's board.
abbrev pub board_ua : Row
board_ua = in_banks 13 (codes "UA") 8192 (banks_to 1 0) (at_lines 0x1260 0x0220 First (Bank 0) ∷ at_lines 0x1260 0x0240 First (Bank 1) ∷ [])

-- Commavid's board: 1024 bytes of RAM, for reading and then for writing, below the ROM.
abbrev pub board_cv : Row
board_cv = record (unbanked 14 (codes "CV") 0x07FF) {
  ram = 1024;
  windows =
      window 0 0x03FF ReadPort (slice (start.At 0) 0x03FF)
      ∷ window 0x0400 0x07FF WritePort (slice (start.At 0) 0x03FF)
      ∷ [];
}

-- The Econobanking board.
abbrev pub board_0840 : Row
board_0840 = in_banks 15 (codes "0840") 8192 (banks_to 1 0) (at_lines 0x1840 0x0800 First (Bank 0) ∷ at_lines 0x1840 0x0840 First (Bank 1) ∷ [])

-- Dynacom's Megaboy board.
abbrev pub board_f0 : Row
board_f0 = in_banks 16 (codes "F0") 65536 (banks_to 15 15) (at 0x1FF0 First Next ∷ [])

-- The board of Fotomania's cartridges.
abbrev pub board_0fa0 : Row
board_0fa0 = in_banks 17 (codes "0FA0") 8192 (banks_to 1 1) (at_lines 0x16E0 0x06A0 First (Bank 0) ∷ at_lines 0x16E0 0x06C0 First (Bank 1) ∷ [])

abbrev pub boards : List Row
boards =
    board_2k ∷ board_4k ∷ board_f8 ∷ board_f8sc ∷ board_f6 ∷ board_f6sc ∷ board_f4 ∷ board_f4sc ∷ board_fa
    ∷ board_e0 ∷ board_3f ∷ board_fe ∷ board_e7 ∷ board_ua ∷ board_cv ∷ board_0840 ∷ board_f0 ∷ board_0fa0 ∷ []

-- A row of the table: the one at the place of its code.
abbrev pub IsBoard : Row → Type 0
IsBoard row = slice_get boards row.code ≡ Some row
