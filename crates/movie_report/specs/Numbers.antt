-- The numbers of a state record, by the board of the cartridge if it is on one: the name of each and
-- its length in bytes, in the record's order. This project's own.
use Rattle.std.specs.Prelude.{ℕ, ◌+◌, ◌==◌, ◌/◌, ◌%◌, List, [], ◌∷◌, ◌++◌, codes, length, map, true}
use Rattle.std.specs.Prelude.{Option, Some, None, if◌then◌else◌}
use Rattle.std.specs.Fmt.{decimal, digits}
use Rattle.std.specs.List.{range_with_len}
use Rattle.record_table.specs.Numbers.{Number, number_length}
use Rattle.cart_board.specs.Board.{Row}
use Rattle.mos_cpu.specs.Registers.{processor_numbers}
use Rattle.riot_chip.specs.Riot.{riot_numbers as riot_by_chip}
use Rattle.riot_map.specs.RiotFields.{riot_numbers}
use Rattle.tia_chip.specs.Numbers.{tia_numbers as tia_by_chip}
use Rattle.tia_core.specs.Numbers.{tia_numbers}
use Rattle.vcs_machine.specs.Faults.{hex2}
use Rattle.vcs_machine.specs.States.{bank_numbers}

pub record NumberData : Type 0 where
  pub name : List ℕ
  pub length : ℕ

abbrev pub names_of : {F : Type 0} → List (Number F) → List NumberData
names_of [] = []
names_of (number ∷ numbers) = record { name = number.name; length = number_length number } ∷ names_of numbers

abbrev pub processor_names : List NumberData
processor_names = names_of processor_numbers

abbrev pub memory_name : ℕ → NumberData
memory_name address = record { name = codes "memory " ++ hex2 address; length = 1 }

-- Addresses 80 to FF.
unfoldable pub memory_names : List NumberData
memory_names = map memory_name (range_with_len 0x80 128)

-- By the guide's rules those of the RIOT, of the TIA and the bank follow.
abbrev pub guide_names : List NumberData
guide_names = names_of riot_numbers ++ names_of tia_numbers ++ names_of bank_numbers

-- A bank byte, with its place where there are several.
abbrev pub bank_name : ℕ → ℕ → NumberData
bank_name count place = record { name = if count == 1 then codes "bank" else codes "bank " ++ decimal place; length = 1 }

-- At least three capital hexadecimal digits. No board has 4096 bytes of RAM.
abbrev pub hex3 : ℕ → List ℕ
hex3 n = digits 16 true (n / 256) ++ hex2 (n % 256)

-- A byte of a cartridge's RAM, by its offset.
abbrev pub ram_name : ℕ → NumberData
ram_name offset = record { name = codes "cartridge memory " ++ hex3 offset; length = 1 }

-- The bank bytes of a board, and its RAM.
unfoldable pub cart_names : Row → List NumberData
cart_names row = map (bank_name (length row.banks)) (range_with_len 0 (length row.banks)) ++ map ram_name (range_with_len 0 row.ram)

-- By the chip's rules those of the RIOT, of the TIA and of the board follow.
abbrev pub chip_names : Row → List NumberData
chip_names row = names_of riot_by_chip ++ names_of tia_by_chip ++ cart_names row

abbrev pub other_names : Option Row → List NumberData
other_names None = guide_names
other_names (Some row) = chip_names row

unfoldable pub state_names : Option Row → List NumberData
state_names board = processor_names ++ memory_names ++ other_names board

-- How many bytes numbers have.
abbrev pub bytes_in : List NumberData → ℕ
bytes_in [] = 0
bytes_in (n ∷ ns) = n.length + bytes_in ns
