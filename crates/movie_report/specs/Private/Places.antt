-- The numbers of a state record by their places. This project's own.
use Rattle.std.specs.Prelude.{ℕ, [], ◌++◌, codes, slice_index_or, Option}
use Rattle.std.specs.Fmt.{decimal}
use Rattle.cart_board.specs.Board.{Row}
use Rattle.movie_file.specs.declared.record.number.RecordNumber.{RecordNumber}
use Rattle.movie_report.specs.Numbers.{NumberData, memory_name, ram_name, state_names}
use Rattle.movie_report.specs.declared.numbers.Number.{Number}
use Rattle.movie_report.specs.declared.numbers.Number.TheVariants.{Named, Memory, OneBank, CartMemory}

-- What stands where there is no number.
abbrev pub no_place : NumberData
no_place = record { name = []; length = 0 }

-- The number at a place, from 0.
unfoldable pub state_number_at : Option Row → ℕ → NumberData
state_number_at board place = slice_index_or (state_names board) place no_place

-- A row of a table in the code.
abbrev pub data_of : RecordNumber → NumberData
data_of row = record { name = row.name.now; length = row.length }

-- A number as the code shows it.
abbrev pub shown : Number → NumberData
shown (Named row) = data_of row
shown (Memory address) = memory_name address
shown (OneBank place) = record { name = codes "bank " ++ decimal place; length = 1 }
shown (CartMemory offset) = ram_name offset
