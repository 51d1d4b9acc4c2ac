-- What an access to an address does on a board, step by step: it may select a bank, then leads
-- somewhere in the cartridge, and its byte may select a bank too. Every access counts, read or
-- write, also one that leads elsewhere in the console, and one whose byte the processor throws away
-- (measured in Stella 6.7).
use Rattle.std.specs.Prelude.{ℕ, List, Option, Some, None, ◌+◌, ◌-◌, ◌*◌, ◌%◌, Bool, true, ◌&&◌}
use Rattle.std.specs.Prelude.{◌==◌, nat_le, if◌then◌else◌, slice_index, slice_set, bit_and, find}
use Rattle.cart_board.specs.Board.{Row, index_of, last_bank}
use Rattle.cart_board.specs.declared.hot_spot.HotSpot.{HotSpot}
use Rattle.cart_board.specs.declared.hot_spot.Selects.{Selects}
use Rattle.cart_board.specs.declared.hot_spot.Selects.TheVariants.{Bank, Next, Written}
use Rattle.cart_board.specs.declared.window.Kind.{Kind}
use Rattle.cart_board.specs.declared.window.Kind.TheVariants.{Rom, ReadPort, WritePort}
use Rattle.cart_board.specs.declared.window.Target.{Target}
use Rattle.cart_board.specs.declared.window.Start.{Start}
use Rattle.cart_board.specs.declared.window.Start.TheVariants as start
use Rattle.cart_board.specs.declared.window.Slice.{Slice}
use Rattle.cart_board.specs.declared.window.When.{When}
use Rattle.cart_board.specs.declared.window.When.TheVariants as when
use Rattle.cart_board.specs.declared.window.Window.{Window}

-- ---- what an access selects before its byte is taken

-- A hot spot is at the addresses whose lines in its mask have its value.
abbrev pub is_at : ℕ → HotSpot → Bool
is_at address spot = bit_and address spot.mask == spot.value

-- The bank that an access to a hot spot selects, of those up to the last one: a number; the one
-- after the selected bank, and after the last one 0; or a written byte, modulo the number of banks,
-- where a read selects nothing.
abbrev pub bank_selected : Selects → ℕ → ℕ → Option ℕ → ℕ
bank_selected (Bank number) last bank written = number
bank_selected Next last bank written = (bank + 1) % (last + 1)
bank_selected Written last bank None = bank
bank_selected Written last bank (Some byte) = byte % (last + 1)

-- The bank bytes after an access to a hot spot, or to none.
abbrev pub banks_by : Row → ℕ → List ℕ → Option ℕ → Option HotSpot → List ℕ
banks_by row bytes banks written None = banks
banks_by row bytes banks written (Some spot) =
    let index = index_of spot.byte in
    slice_set banks index (bank_selected spot.selects (last_bank row bytes spot.byte) (slice_index banks index) written)

-- The bank bytes that an access to an address selects, of a cartridge of so many bytes. Of a write
-- the byte is looked at.
abbrev pub banks_selected : Row → ℕ → List ℕ → ℕ → Option ℕ → List ℕ
banks_selected row bytes banks address written = banks_by row bytes banks written (find (is_at address) row.hot_spots)

-- ---- what it selects when its byte is on the bus

-- On a board with a trigger the second bank byte is 1 if the access before was one to the trigger,
-- whose 13 lines count. Then bit 5 of the byte of this access selects the first bank byte: 1 where
-- it is 0. (US patent 4,432,067.)
abbrev pub banks_of_byte : Option ℕ → List ℕ → ℕ → ℕ → List ℕ
banks_of_byte None banks address byte = banks
banks_of_byte (Some trigger) banks address byte =
    let first = (if slice_index banks 1 == 1 then (if bit_and byte 32 == 0 then 1 else 0) else slice_index banks 0) in
    let second = (if address % 8192 == trigger then 1 else 0) in
    slice_set (slice_set banks 0 first) 1 second

-- ---- where an address leads

-- Where a slice of this length begins: at an offset, at the selected bank, or so long before the end
-- of the cartridge.
abbrev pub start_at : Start → ℕ → ℕ → List ℕ → ℕ
start_at (start.At offset) size bytes banks = offset
start_at (start.Bank first byte) size bytes banks = first + size * slice_index banks (index_of byte)
start_at start.Last size bytes banks = bytes - size

abbrev pub start_of : Slice → ℕ → List ℕ → ℕ
start_of slice bytes banks = start_at slice.start (slice.mask + 1) bytes banks

-- The place of an address's byte: the lines of the mask count from the start of the slice.
abbrev pub offset_of : Slice → ℕ → List ℕ → ℕ → ℕ
offset_of slice bytes banks address = start_of slice bytes banks + bit_and address slice.mask

-- A window is open always, or while a bank byte is this number.
abbrev pub holds : When → List ℕ → Bool
holds when.Always banks = true
holds (when.Bank byte number) banks = slice_index banks (index_of byte) == number

-- An address is in a window if that is open, and its range has the low twelve lines of the address.
abbrev pub is_in : ℕ → List ℕ → Window → Bool
is_in address banks window = nat_le window.first (address % 4096) && nat_le (address % 4096) window.last && holds window.when banks

-- How many bytes there are of a kind, with a cartridge of so many.
abbrev pub size_of : Row → ℕ → Kind → ℕ
size_of row bytes Rom = bytes
size_of row bytes ReadPort = row.ram
size_of row bytes WritePort = row.ram

-- Where an address leads by the window that it is in, or by none.
abbrev pub target_by : Row → ℕ → List ℕ → ℕ → Option Window → Target
target_by row bytes banks address None = record { kind = Rom; offset = offset_of row.rest bytes banks address }
target_by row bytes banks address (Some window) = record { kind = window.kind; offset = offset_of window.slice bytes banks address }

-- Where an address of the cartridge (line A12 is 1) leads while these banks are selected.
abbrev pub target_of : Row → ℕ → List ℕ → ℕ → Target
target_of row bytes banks address = target_by row bytes banks address (find (is_in address banks) row.windows)
