-- Which command the words of a command line are. This project's own.
use Rattle.std.specs.Prelude.{◌≡◌, ◌⊎◌, ◌↔◌, ◌≤◌, ℕ, IsSomeAnd, false, true, List, [], ◌∷◌, Option, Some, None}
use Rattle.std.specs.Prelude.{Ok, Result, if◌then◌else◌, ◌==◌, codes, is_some, length, map, option_map, string_bytes}
use Rattle.std.specs.Prelude.{bytes_eq, find, unwrap_or}
use Rattle.std.specs.NonZero.{non_zero_u16_get, non_zero_u32_get}
use Rattle.std.specs.Str.Parse.{digits_value, without_leading_plus}
use Rattle.cart_board.specs.Board.{Row as Board}
use Rattle.cart_board.specs.Boards.{boards}
use Rattle.clap.specs.Words.{Row, Text, all_of, first_of, one_of}
use Rattle.hex.specs.Hex.{decode_sized}
use Rattle.hex.specs.declared.error.FromHexError.{FromHexError}
use Rattle.replay_plan.specs.Limits.{most_watches}
use Rattle.replay_plan.specs.declared.expectations.Expectations.{Expectations}
use Rattle.replay_plan.specs.declared.input_form.InputForm.TheVariants as forms
use Rattle.replay_plan.specs.declared.notation.Notation.{Notation}
use Rattle.replay_plan.specs.declared.notation.Notation.TheVariants.{Json, Lines}
use Rattle.replay_plan.specs.declared.keep.Keep.{Keep}
use Rattle.replay_plan.specs.declared.watches.Address.{Address}
use Rattle.replay_plan.specs.declared.watches.Details.{Details}
use Rattle.replay_plan.specs.declared.workers.Workers.{Workers}
use Rattle.command_line.specs.Named.{named_row}
use Rattle.command_line.specs.Table.{Argument, asked_row, board_row, checkpoints_row}
use Rattle.command_line.specs.Table.{count_row}
use Rattle.command_line.specs.Table.{cuts_row, digests_row, explain_row, file_row, first_row, frame_row}
use Rattle.command_line.specs.Table.{inputs_row, json_row, memory_row, new_row, numbers_row}
use Rattle.command_line.specs.Table.{old_row, watch_row}
use Rattle.command_line.specs.Table.{out_row, pictures_row, rom_row}
use Rattle.command_line.specs.Table.{expected_rom_row, power_on_row, sha256_row, text_row, to_the_end_row, to_the_fault_row, workers_row}
use Rattle.command_line.specs.declared.command.Command.{Command}
use Rattle.command_line.specs.declared.command.CommandLine.{CommandLine}
use Rattle.command_line.specs.declared.command.Command.TheVariants.{Verify, Report, Make}
use Rattle.command_line.specs.declared.command.Command.TheVariants.{Info, Claims, Inputs, Cartridge, Convert}
use Rattle.command_line.specs.declared.command.Command.TheVariants.{Frames, Pictures, Cut, Trace}
use Rattle.command_line.specs.declared.inputs.Listing.{Listing}
use Rattle.command_line.specs.declared.make.Making.{Making}

-- The number that a text writes in decimal digits, of which the first may follow a plus.
abbrev pub number_in : Text → ℕ
number_in text = digits_value 10 (without_leading_plus text)

-- The number of an argument, in what `clap` found for a command.
abbrev pub number_of : Argument → List Row → Option ℕ
number_of argument rows = option_map number_in (one_of argument.name rows)

-- The word of an argument; of one without a word the empty text.
abbrev pub word_of : Argument → List Row → Text
word_of argument rows = unwrap_or (first_of argument.name rows) (codes "")

-- The pictures that `verify` keeps. If no file takes them none is kept.
pub record IsKept (rows : List Row) (keep : Keep) : Type 0 where
  pub first : number_of first_row rows ≡ Some keep.first
  pub count : is_some (first_of pictures_row.name rows) ≡ true → number_of count_row rows ≡ Some keep.count
  pub none : is_some (first_of pictures_row.name rows) ≡ false → keep.count ≡ 0

-- The words of an argument that may be there more than once, in order.
abbrev pub words_of : Argument → List Row → List Text
words_of argument rows = unwrap_or (all_of argument.name rows) []

-- A word without the dollar sign with which it may begin.
abbrev pub without_dollar : Text → Text
without_dollar [] = []
without_dollar (first ∷ rest) = if first == 36 then rest else first ∷ rest

-- The byte that a word writes in two hexadecimal digits, which may follow a dollar sign.
abbrev pub byte_in : Text → Result (List ℕ) FromHexError
byte_in word = decode_sized (without_dollar word) 1

-- Words that write these addresses. That each is one of the memory is in its type.
abbrev pub AreAddresses : List Text → List Address → Type 0
AreAddresses words addresses = map byte_in words ≡ map (λ (a : Address). Ok (a.number ∷ [])) addresses

-- An option without a word is there.
abbrev pub IsGiven : Argument → List Row → Type 0
IsGiven argument rows = one_of argument.name rows ≡ Some (codes "true")

-- What `frames` tells of each frame.
pub record AreDetails (rows : List Row) (details : Details) : Type 0 where
  pub watches : AreAddresses (words_of watch_row rows) details.watches
  pub memory : (details.memory ≡ true) ↔ IsGiven memory_row rows
  pub digests : (details.digests ≡ true) ↔ IsGiven digests_row rows

-- In which notation a command writes.
abbrev pub IsNotation : List Row → Notation → Type 0
IsNotation rows notation = (notation ≡ Json) ↔ IsGiven json_row rows

-- The digest that a word writes in 64 hexadecimal digits, if the word is there.
abbrev pub IsDigest : Option Text → Option (List ℕ) → Type 0
IsDigest None None = Unit {0}
IsDigest (Some word) (Some digest) = decode_sized word 32 ≡ Ok digest
IsDigest word digest = ⊥

-- What a report compares the movie with.
pub record AreExpectations (rows : List Row) (expectations : Expectations) : Type 0 where
  pub digest : IsDigest (first_of sha256_row.name rows) expectations.digest
  pub power_on : (expectations.power_on ≡ true) ↔ IsGiven power_on_row rows
  pub to_the_end : (expectations.to_the_end ≡ true) ↔ IsGiven to_the_end_row rows

-- Of which frames a movie that is made claims the state, and whether it may end with a fault.
pub record IsMaking (rows : List Row) (making : Making) : Type 0 where
  pub every : number_of checkpoints_row rows ≡ Some (non_zero_u32_get making.every)
  pub to_the_end : (making.to_the_end ≡ true) ↔ IsGiven to_the_end_row rows
  pub to_the_fault : (making.to_the_fault ≡ true) ↔ IsGiven to_the_fault_row rows

-- The board that a word names, if the word is there.
abbrev pub board_named : Text → Option Board
board_named name = find (λ row. bytes_eq row.name name) boards

abbrev pub IsOn : Option Text → Option Board → Type 0
IsOn None board = board ≡ None
IsOn (Some name) board = (board ≡ board_named name) × (is_some board ≡ true)

-- The files that a command line names: its input, a second input, and what takes what it writes.
pub record Files : Type 0 where
  pub input : Text
  pub second : Option Text
  pub output : Option Text

abbrev pub files_of : CommandLine → Files
files_of line = record { input = string_bytes line.input; second = option_map string_bytes line.second; output = option_map string_bytes line.output }

-- A movie, and this output.
abbrev pub of_movie : List Row → Option Text → Files
of_movie rows output = record { input = word_of file_row rows; second = None; output = output }

-- It writes lines, and by one worker: there are no options for that.
abbrev pub IsPlain : Notation → Workers → Type 0
IsPlain notation workers = (notation ≡ Lines) × (workers.number ≡ 1)

-- The frames that are asked for: the first, and how many.
abbrev pub AreFrames : List Row → ℕ → ℕ → Type 0
AreFrames rows first count = (number_of first_row rows ≡ Some first) × (number_of asked_row rows ≡ Some count)

-- Of which frames the inputs are printed, and how.
pub record AsksForInputs (rows : List Row) (listing : Listing) : Type 0 where
  pub frames : AreFrames rows (non_zero_u32_get listing.first) listing.count
  pub numbers : (listing.numbers ≡ true) ↔ IsGiven numbers_row rows

-- The command of this name, of which `clap` found these values, with its files, in which notation it writes,
-- and by how many workers.
abbrev pub IsCommandAt : Text → List Row → Command → Files → Notation → Workers → Type 0
IsCommandAt name rows (Verify every keep) files notation workers =
    (name ≡ codes "verify") × (number_of cuts_row rows ≡ Some (non_zero_u16_get every)) × IsKept rows keep
    × (files ≡ of_movie rows (first_of pictures_row.name rows)) × IsNotation rows notation × (number_of workers_row rows ≡ Some workers.number)
IsCommandAt name rows (Report expectations) files notation workers =
    (name ≡ codes "report") × AreExpectations rows expectations
    × (files ≡ record (of_movie rows None) { second = first_of expected_rom_row.name rows })
    × IsNotation rows notation × (number_of workers_row rows ≡ Some workers.number)
IsCommandAt name rows (Make form making board) files notation workers =
    (name ≡ codes "make") × ((form ≡ forms.Text) ↔ IsGiven text_row rows) × IsMaking rows making
    × IsOn (first_of board_row.name rows) (named_row board)
    × (files ≡ record { input = word_of rom_row rows; second = Some (word_of inputs_row rows); output = Some (word_of out_row rows) })
    × IsPlain notation workers
IsCommandAt name rows Info files notation workers =
    (name ≡ codes "info") × (files ≡ of_movie rows None) × IsNotation rows notation × (workers.number ≡ 1)
IsCommandAt name rows Claims files notation workers =
    (name ≡ codes "claims") × (files ≡ of_movie rows None) × IsNotation rows notation × (workers.number ≡ 1)
IsCommandAt name rows (Inputs listing) files notation workers =
    (name ≡ codes "inputs") × AsksForInputs rows listing × (files ≡ of_movie rows None) × IsPlain notation workers
IsCommandAt name rows Cartridge files notation workers =
    (name ≡ codes "cartridge") × (files ≡ of_movie rows (Some (word_of out_row rows))) × IsPlain notation workers
IsCommandAt name rows Convert files notation workers =
    (name ≡ codes "convert") × (files ≡ record { input = word_of old_row rows; second = None; output = Some (word_of new_row rows) })
    × IsPlain notation workers
IsCommandAt name rows (Frames first count details) files notation workers =
    (name ≡ codes "frames") × AreFrames rows (non_zero_u32_get first) count × AreDetails rows details
    × (files ≡ of_movie rows None) × IsNotation rows notation × (workers.number ≡ 1)
IsCommandAt name rows (Pictures first count) files notation workers =
    (name ≡ codes "pictures") × AreFrames rows (non_zero_u32_get first) count × (files ≡ of_movie rows (Some (word_of out_row rows))) × IsPlain notation workers
IsCommandAt name rows (Cut first count every) files notation workers =
    (name ≡ codes "cut") × AreFrames rows (non_zero_u32_get first) count × (number_of checkpoints_row rows ≡ Some (non_zero_u32_get every))
    × (files ≡ of_movie rows (Some (word_of out_row rows))) × IsPlain notation workers
IsCommandAt name rows (Trace frame) files notation workers =
    (name ≡ codes "trace") × (number_of frame_row rows ≡ Some (non_zero_u32_get frame)) × (files ≡ of_movie rows None) × IsPlain notation workers

abbrev pub IsLineAt : Text → List Row → CommandLine → Type 0
IsLineAt name rows line = IsCommandAt name rows line.command (files_of line) line.notation line.workers

-- `verify` of a movie that is cut at every checkpoint, which keeps no picture.
abbrev pub IsPlainVerify : Command → Type 0
IsPlainVerify (Verify every keep) = (non_zero_u16_get every ≡ 1) × (keep.first ≡ 1) × (keep.count ≡ 0)
IsPlainVerify other = ⊥

-- The command of the words at which `clap` met this command's name, with the values that it found
-- there. Without a name it is `verify -`.
abbrev pub IsLine : Option (Text × List Row) → CommandLine → Type 0
IsLine None line =
    IsPlainVerify line.command × (files_of line ≡ record { input = codes "-"; second = None; output = None }) × IsPlain line.notation line.workers
IsLine (Some met) line = IsLineAt met.0 met.1 line

-- The reasons are asked for: before the command's name, or after it.
abbrev pub AsksForReasons : List Row → Option (Text × List Row) → Type 0
AsksForReasons before met = IsGiven explain_row before ⊎ IsSomeAnd met (λ met. IsGiven explain_row met.1)

-- Each word after `--watch` writes an address of the memory, and there are at most 16 of them.
abbrev pub HasAddresses : List Row → Type 0
HasAddresses rows =
    (addresses : List Address) × AreAddresses (words_of watch_row rows) addresses × (length addresses ≤ most_watches)
