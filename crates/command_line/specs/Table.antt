-- The commands of the program and their arguments, a row an argument, as the page COMMANDS has
-- them. This project's own.
use Rattle.std.specs.Prelude.{◌≡◌, ℕ, Bool, List, [], ◌∷◌, ◌++◌, Some, codes, map, pos, true, false}
use Rattle.std.specs.List.{list_any}
use Rattle.std.specs.Str.{bytes_eq}
use Rattle.clap.specs.Words.{App, Rule, Shape, Text, app_of, new_rule, rule_of, shape_of, with_subcommand}
use Rattle.clap.specs.Simple.{new_shape}
use Rattle.clap.specs.declared.builder.Arg.{Arg}
use Rattle.clap.specs.declared.builder.Command.{Command}
use Rattle.clap.specs.declared.builder.Command.TheViews.{out-Command}
use Rattle.clap.specs.declared.builder.action.ArgAction.TheVariants.{Append, Set, SetTrue}
use Rattle.clap.specs.declared.builder.value_parser.ValueParser.TheVariants.{Signed}

-- What an argument is: a word that stands by its place and has to be there; an option with a word;
-- the same if it has to be there; an option with a number, from the least to the most, and the text
-- that stands for it if it isn't there; the same if it has to be there; an option without a word; an
-- option with a word that may be there more than once.
pub data Kind : Type 0 where
  operand : Kind
  word : Kind
  needed_word : Kind
  number : ℕ → ℕ → Text → Kind
  needed_number : ℕ → ℕ → Kind
  switch : Kind
  repeated_word : Kind

-- An argument of a command.
pub record Argument : Type 0 where
  pub name : Text
  pub kind : Kind

-- A command with its arguments.
pub record Listed : Type 0 where
  pub name : Text
  pub arguments : List Argument

-- The rows, as ci/command-table prints them of src/table.rt. Where two commands have an argument alike it
-- is one row. `explain_row` is the option that every command has as its last one, and that may stand before
-- the command's name. The commands are those that judge a movie, those that make one or say what one holds,
-- and those that look into a run.
abbrev pub file_row : Argument
file_row = record { name = codes "file"; kind = operand }

abbrev pub workers_row : Argument
workers_row = record { name = codes "workers"; kind = number 1 64 (codes "1") }

abbrev pub cuts_row : Argument
cuts_row = record { name = codes "every"; kind = number 1 65535 (codes "1") }

abbrev pub first_row : Argument
first_row = record { name = codes "first"; kind = number 1 4294967295 (codes "1") }

abbrev pub count_row : Argument
count_row = record { name = codes "count"; kind = number 0 600 (codes "600") }

abbrev pub pictures_row : Argument
pictures_row = record { name = codes "pictures"; kind = word }

abbrev pub json_row : Argument
json_row = record { name = codes "json"; kind = switch }

abbrev pub explain_row : Argument
explain_row = record { name = codes "explain"; kind = switch }

abbrev pub expected_rom_row : Argument
expected_rom_row = record { name = codes "rom"; kind = word }

abbrev pub sha256_row : Argument
sha256_row = record { name = codes "sha256"; kind = word }

abbrev pub power_on_row : Argument
power_on_row = record { name = codes "power-on"; kind = switch }

abbrev pub to_the_end_row : Argument
to_the_end_row = record { name = codes "to-the-end"; kind = switch }

abbrev pub rom_row : Argument
rom_row = record { name = codes "rom"; kind = operand }

abbrev pub inputs_row : Argument
inputs_row = record { name = codes "inputs"; kind = operand }

abbrev pub text_row : Argument
text_row = record { name = codes "text"; kind = switch }

abbrev pub checkpoints_row : Argument
checkpoints_row = record { name = codes "every"; kind = needed_number 1 4294967295 }

abbrev pub to_the_fault_row : Argument
to_the_fault_row = record { name = codes "to-the-fault"; kind = switch }

abbrev pub board_row : Argument
board_row = record { name = codes "board"; kind = word }

abbrev pub out_row : Argument
out_row = record { name = codes "out"; kind = needed_word }

abbrev pub numbers_row : Argument
numbers_row = record { name = codes "numbers"; kind = switch }

abbrev pub asked_row : Argument
asked_row = record { name = codes "count"; kind = number 0 4294967295 (codes "4294967295") }

abbrev pub old_row : Argument
old_row = record { name = codes "old"; kind = operand }

abbrev pub new_row : Argument
new_row = record { name = codes "new"; kind = operand }

abbrev pub watch_row : Argument
watch_row = record { name = codes "watch"; kind = repeated_word }

abbrev pub memory_row : Argument
memory_row = record { name = codes "memory"; kind = switch }

abbrev pub digests_row : Argument
digests_row = record { name = codes "digests"; kind = switch }

abbrev pub frame_row : Argument
frame_row = record { name = codes "frame"; kind = needed_number 1 4294967295 }

abbrev pub verify_listed : Listed
verify_listed = record {
  name = codes "verify";
  arguments = file_row ∷ workers_row ∷ cuts_row ∷ first_row ∷ count_row ∷ pictures_row ∷ json_row ∷ [];
}

abbrev pub report_listed : Listed
report_listed = record {
  name = codes "report";
  arguments = file_row ∷ workers_row ∷ expected_rom_row ∷ sha256_row ∷ power_on_row ∷ to_the_end_row ∷ json_row ∷ [];
}

abbrev pub make_listed : Listed
make_listed = record {
  name = codes "make";
  arguments = rom_row ∷ inputs_row ∷ text_row ∷ checkpoints_row ∷ to_the_end_row ∷ to_the_fault_row ∷ board_row ∷ out_row ∷ [];
}

abbrev pub info_listed : Listed
info_listed = record { name = codes "info"; arguments = file_row ∷ json_row ∷ [] }

abbrev pub claims_listed : Listed
claims_listed = record { name = codes "claims"; arguments = file_row ∷ json_row ∷ [] }

abbrev pub inputs_listed : Listed
inputs_listed = record {
  name = codes "inputs";
  arguments = file_row ∷ numbers_row ∷ first_row ∷ asked_row ∷ [];
}

abbrev pub cartridge_listed : Listed
cartridge_listed = record { name = codes "cartridge"; arguments = file_row ∷ out_row ∷ [] }

abbrev pub convert_listed : Listed
convert_listed = record { name = codes "convert"; arguments = old_row ∷ new_row ∷ [] }

abbrev pub frames_listed : Listed
frames_listed = record {
  name = codes "frames";
  arguments = file_row ∷ first_row ∷ asked_row ∷ watch_row ∷ memory_row ∷ digests_row ∷ json_row ∷ [];
}

abbrev pub pictures_listed : Listed
pictures_listed = record {
  name = codes "pictures";
  arguments = file_row ∷ out_row ∷ first_row ∷ asked_row ∷ [];
}

abbrev pub cut_listed : Listed
cut_listed = record {
  name = codes "cut";
  arguments = file_row ∷ checkpoints_row ∷ out_row ∷ first_row ∷ asked_row ∷ [];
}

abbrev pub trace_listed : Listed
trace_listed = record { name = codes "trace"; arguments = file_row ∷ frame_row ∷ [] }

abbrev pub commands : List Listed
commands =
    verify_listed ∷ report_listed ∷ make_listed ∷ info_listed
    ∷ claims_listed ∷ inputs_listed ∷ cartridge_listed ∷ convert_listed
    ∷ frames_listed ∷ pictures_listed ∷ cut_listed ∷ trace_listed
    ∷ []

-- One of them has this name.
abbrev pub is_command : Text → Bool
is_command name = list_any (λ listed. bytes_eq listed.name name) commands

-- ---- the same as `clap` reads it

-- An option with a word.
abbrev pub with_word : Text → Rule
with_word name = record (new_rule name) { long = Some name; value_names = 1 }

-- An option with a number from `least` to `most`.
abbrev pub with_number : ℕ → ℕ → Text → Rule
with_number least most name =
    record (with_word name) { parser = Some (Signed (pos least) (pos most)) }

-- An argument of this kind and name.
abbrev pub rule_as : Kind → Text → Rule
rule_as operand name = record (new_rule name) { required = true; value_names = 1 }
rule_as word name = record (with_word name) { action = Some Set }
rule_as needed_word name = record (with_word name) { action = Some Set; required = true }
rule_as (number least most default) name =
    record (with_number least most name) { defaults = default ∷ [] }
rule_as (needed_number least most) name = record (with_number least most name) { required = true }
rule_as switch name = record (new_rule name) { long = Some name; action = Some SetTrue }
rule_as repeated_word name = record (with_word name) { action = Some Append }

-- An argument of the table.
abbrev pub rule_for : Argument → Rule
rule_for argument = rule_as argument.kind argument.name

-- The argument is the one of a row.
abbrev pub IsRow : Argument → Arg → Type 0
IsRow argument given = (rule_of given ≡ rule_for argument) × (given.global ≡ false)

-- A command of the table, with the option that all have.
abbrev pub shape_for : Listed → Shape
shape_for listed = record (new_shape listed.name) { rules = map rule_for listed.arguments ++ rule_for explain_row ∷ [] }

-- The command is this one, and none of its arguments goes on to commands below it.
abbrev pub IsApp : App → Command → Type 0
IsApp app command = (app_of command ≡ app) × ((out-Command command).has_globals ≡ false)

-- The command is one of the table.
abbrev pub IsListed : Listed → Command → Type 0
IsListed listed command =
    (shape_of command ≡ shape_for listed) × ((out-Command command).has_globals ≡ false)

-- A program with more commands of the table.
abbrev pub with_listed : App → List Listed → App
with_listed app [] = app
with_listed app (listed ∷ more) = with_listed (with_subcommand app (shape_for listed)) more

-- The program: its commands, the option that stands before them, and two texts for its version.
abbrev pub program_app : App
program_app = record {
  top = record (new_shape (codes "vcs_check")) {
    rules = rule_for explain_row ∷ [];
    is_leaf = false;
    has_version = true;
    has_long_version = true;
  };
  subs = map shape_for commands;
}
