-- The record of a state: the bytes of its numbers, part by part, and the RAM of its cartridge. This
-- project's own.
use Rattle.std.specs.Prelude.{ℕ, List, ◌++◌, ◌≡◌, ◌<◌, ◌^◌, true, length, take}
use Rattle.record_table.specs.Numbers.{bytes_of}
use Rattle.cart_board.specs.Board.{Row}
use Rattle.cart_board.specs.CartState.{Cartridge}
use Rattle.mos_cpu.specs.Registers.{processor_numbers}
use Rattle.riot_chip.specs.Riot.{riot_numbers}
use Rattle.riot_chip.specs.declared.fields.RiotFields.{RiotFields}
use Rattle.tia_chip.specs.Numbers.{tia_numbers}
use Rattle.chip_machine.specs.States.{StateData, is_of, is_state}

-- the 137 bytes of a RIOT: first its memory
abbrev pub riot_bytes : RiotFields → List ℕ
riot_bytes r = r.ram ++ bytes_of riot_numbers r

-- the record of a state on a board, of which the bank bytes are those that the board has
abbrev pub record_of : Row → StateData → List ℕ
record_of row s =
    bytes_of processor_numbers s.fields.cpu ++ riot_bytes s.fields.riot ++ bytes_of tia_numbers s.fields.tia
    ++ take (length row.banks) s.fields.banks ++ s.ram

-- The states of a cartridge that there are: the conditions of a record are these, of the state that it
-- spells, and its numbers are in the ranges of their types.
pub record IsStateOf (cartridge : Cartridge) (s : StateData) : Type 0 where
  pub numbers : is_state s.fields ≡ true
  pub cart : is_of cartridge s ≡ true
  pub pc : s.fields.cpu.pc < 2 ^ 16
  pub memory : length s.fields.riot.ram ≡ 128
  pub banks : length s.fields.banks ≡ 3
