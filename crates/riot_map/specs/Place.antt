-- The address map, by the lines of an address, as the Stella Programmer's Guide wires them.
use Rattle.std.specs.Prelude.{ℕ, ◌%◌, not, if◌then◌else◌}
use Rattle.riot_map.specs.Bits.{has_bit}
use Rattle.riot_map.specs.declared.places.Place.{Place}
use Rattle.riot_map.specs.declared.places.Place.TheVariants.{Cart, Tia, Ram, Io}

-- A12 selects the cartridge. Without it A7 low selects the TIA, by A0 to A5; with A7 high A9 low
-- selects the RIOT's memory, by A0 to A6, and A9 high its ports and timer, by A0 to A4.
abbrev pub place_of : ℕ → Place
place_of address =
    if has_bit address 12 then Cart address
    else if not (has_bit address 7) then Tia (address % 64)
    else if not (has_bit address 9) then Ram (address % 128)
    else Io (address % 32)
