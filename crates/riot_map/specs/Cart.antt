-- Cartridges, as lists of bytes. Two banks are those of the F8 scheme: Kevin Horton, "Mostly
-- Inclusive Atari 2600 Mapper / Selected Hardware Document", F8.
use Rattle.std.specs.Prelude.{ℕ, List, length, slice_index, ◌+◌, ◌*◌, ◌%◌, Bool, ◌==◌, ◌&&◌, ◌||◌}
use Rattle.std.specs.Prelude.{if◌then◌else◌}

-- the lengths that are taken: the Stella Programmer's Guide's 2K and 4K cartridges, and 8K in two
-- banks
abbrev pub is_cart_length : ℕ → Bool
is_cart_length n = (n == 2048) || (n == 4096) || (n == 8192)

-- A cartridge of so many bytes has two banks. They are switched as Atari's 8K cartridges switch
-- them, which is called F8 after the addresses that do it. That each cartridge of so many bytes is
-- one of these is this project's own.
abbrev pub has_banks : ℕ → Bool
has_banks n = n == 8192

-- The byte at an address while a bank is selected, 0 or 1: a bank has 4096 bytes. Without banks the
-- cartridge fills its part of the address space again and again, since the lines above its length
-- don't reach it.
abbrev pub cart_byte : List ℕ → ℕ → ℕ → ℕ
cart_byte cartridge bank address =
    if has_banks (length cartridge) then slice_index cartridge (4096 * bank + address % 4096)
    else slice_index cartridge (address % length cartridge)

-- The bank after an access: of two banks the first is selected at 1FF8 and the second at 1FF9, on
-- the 13 address lines. That a data access alone selects, read or write, and not the fetch of an
-- instruction's byte, is this project's own.
abbrev pub bank_after : List ℕ → ℕ → ℕ → ℕ
bank_after cartridge bank address =
    if has_banks (length cartridge) && (address % 8192 == 0x1FF8) then 0
    else if has_banks (length cartridge) && (address % 8192 == 0x1FF9) then 1
    else bank

-- The bank of a console that was just switched on: of two banks the second. This project's own.
abbrev pub bank_at_power_on : List ℕ → ℕ
bank_at_power_on cartridge = if has_banks (length cartridge) then 1 else 0
