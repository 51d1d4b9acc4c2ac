-- The record of a state: the bytes of its numbers, part by part. This project's own.
use Rattle.std.specs.Prelude.{ℕ, List, [], ◌++◌, length, take, ◌==◌, ◌&&◌, ◌||◌, Bool}
use Rattle.std.specs.Prelude.{Option, Some, None, ◌-◌, option_and_then, replicate, if◌then◌else◌}
use Rattle.std.specs.Option.{option_map}
use Rattle.chip_machine.specs.Record.{record_of as record_by_chip}
use Rattle.chip_machine.specs.RecordNumbers.{record_length as length_by_chip, recorded_state as recorded_by_chip}
use Rattle.cart_board.specs.Board.{Row}
use Rattle.movie_machine.specs.declared.cart.Cart.{Cart}
use Rattle.movie_machine.specs.declared.cart.Cart.TheVariants.{Guide as GuideCart, Chip as ChipCart}
use Rattle.movie_machine.specs.declared.state.State.{State}
use Rattle.movie_machine.specs.declared.state.State.TheVariants.{Guide, Chip}
use Rattle.record_table.specs.Numbers.{bytes_of}
use Rattle.mos_cpu.specs.Registers.{processor_numbers}
use Rattle.riot_map.specs.Cart.{has_banks}
use Rattle.riot_map.specs.RiotFields.{riot_numbers}
use Rattle.riot_map.specs.declared.fields.RiotFields.{RiotFields}
use Rattle.tia_core.specs.Numbers.{tia_numbers}
use Rattle.vcs_machine.specs.States.{bank_numbers, is_state}
use Rattle.vcs_machine.specs.declared.fields.StateFields.{StateFields}
use Rattle.movie_file.specs.Format.{state_length, record_length}
use Rattle.movie_file.specs.RecordNumbers.{fields_at}

-- the 138 bytes of a RIOT: first its memory
abbrev pub riot_bytes : RiotFields → List ℕ
riot_bytes r = r.ram ++ bytes_of riot_numbers r

unfoldable pub record_of : StateFields → List ℕ
record_of f =
    bytes_of processor_numbers f.cpu ++ riot_bytes f.riot ++ bytes_of tia_numbers f.tia ++ bytes_of bank_numbers f

-- the state whose record the bytes are, if they are one: `law_of_records`
unfoldable pub recorded_state : List ℕ → Option StateFields
recorded_state bytes = if (length bytes == state_length) && is_state (fields_at bytes) then Some (fields_at bytes) else None

-- the record of a state by the guide's rules in a movie of this version
abbrev pub movie_record : ℕ → StateFields → List ℕ
movie_record version f = take (record_length version None) (record_of f)

-- the record of a state with a cartridge, by the rules of both
abbrev pub record_in : Cart → State → List ℕ
record_in (GuideCart bytes) (Guide f) = record_of f
record_in (ChipCart cartridge) (Chip s) = record_by_chip cartridge.row s
record_in (GuideCart bytes) (Chip s) = []
record_in (ChipCart cartridge) (Guide f) = []

-- how many bytes it has, of a state of the cartridge, by the cartridge's board
abbrev pub whole_length : Option Row → ℕ
whole_length None = state_length
whole_length (Some row) = length_by_chip row

-- the same in a movie of this version
abbrev pub state_bytes : ℕ → Cart → State → List ℕ
state_bytes version (GuideCart bytes) (Guide f) = movie_record version f
state_bytes version (ChipCart cartridge) (Chip s) = record_by_chip cartridge.row s
state_bytes version (GuideCart bytes) (Chip s) = []
state_bytes version (ChipCart cartridge) (Guide f) = []

-- the whole record of a state by the guide's rules in a movie of this version: what was left out is 0
abbrev pub whole_record : ℕ → List ℕ → List ℕ
whole_record version bytes = bytes ++ replicate (state_length - record_length version None) 0

-- a bank other than 0 is there only if a cartridge of so many bytes has banks
abbrev pub fits_bank : ℕ → StateFields → Bool
fits_bank cartridge_length f = has_banks cartridge_length || (f.bank == 0)

-- the state by the guide's rules whose record in a movie the bytes are: of this version, with a
-- cartridge of so many bytes
unfoldable pub guide_state_at : ℕ → ℕ → List ℕ → Option StateFields
guide_state_at version cartridge_length bytes =
    option_and_then (λ f. if fits_bank cartridge_length f then Some f else None) (recorded_state (whole_record version bytes))

-- the state of a cartridge whose record in a movie of this version the bytes are
abbrev pub movie_state_at : ℕ → Cart → List ℕ → Option State
movie_state_at version (GuideCart cartridge) bytes = option_map (λ f. Guide f) (guide_state_at version (length cartridge) bytes)
movie_state_at version (ChipCart cartridge) bytes = option_map (λ s. Chip s) (recorded_by_chip cartridge bytes)
