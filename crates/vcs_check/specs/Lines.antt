-- Which command line some words are, and what is said of words that are none. This project's own.
use Rattle.std.specs.Prelude.{◌≡◌, ◌↔◌, ◌⊎◌, List, Some, String, codes, map, not, slice_get, string_bytes, true}
use Rattle.std.specs.List.{filter}
use Rattle.std.specs.Str.{bytes_eq}
use Rattle.clap.specs.Words.{Text, matches_of, subcommand_of}
use Rattle.command_line.specs.Faults.{IsRefusal}
use Rattle.command_line.specs.Meanings.{AsksForReasons, IsLine}
use Rattle.command_line.specs.Table.{program_app}
use Rattle.command_line.specs.declared.command.CommandLine.{CommandLine}
use Rattle.command_line.specs.declared.command.LineFault.{LineFault}
use Rattle.command_line.specs.declared.command.LineFault.TheVariants.{Usage}
use Rattle.terminal_text.specs.Names.{shown_text}
use Rattle.vcs_check.specs.Reasons.{HasExplain}

-- What words say.
abbrev pub texts_of : {Z : Type 0} → List (String Z) → List Text
texts_of words = map (λ word. string_bytes word) words

-- It is the command line of these words, with reasons if they ask for them.
abbrev pub IsLineOf : List Text → CommandLine → Type 0
IsLineOf words line =
    IsLine (subcommand_of program_app words) line
    × ((line.explain ≡ true) ↔ AsksForReasons (matches_of program_app words) (subcommand_of program_app words))

-- The words without `--explain`.
abbrev pub without_explain : List Text → List Text
without_explain words = filter (λ word. not (bytes_eq word (codes "--explain"))) words

-- `help` is the first word after the program's name, and `--explain` one of the words, which `clap`
-- would take for a command there.
abbrev pub ExplainsHelp : {Z : Type 0} → List (String Z) → Type 0
ExplainsHelp words = (slice_get (texts_of words) 1 ≡ Some (codes "help")) × HasExplain words

-- The words that are read: all, or then those without `--explain`.
abbrev pub AreRead : {Z : Type 0} → List (String Z) → List Text → Type 0
AreRead words read =
    (ExplainsHelp words → read ≡ without_explain (texts_of words))
    × ((ExplainsHelp words → ⊥) → read ≡ texts_of words)

-- It is the command line of the words that are read.
abbrev pub IsLineOfWords : {Z : Type 0} → List (String Z) → CommandLine → Type 0
IsLineOfWords words line = (read : List Text) × AreRead words read × IsLineOf read line

-- The words are a mistake.
abbrev pub IsMistake : LineFault → Type 0
IsMistake (Usage kind text) = Unit {0}
IsMistake fault = ⊥

-- How a fault is reported: a mistake may be put in other words, all else stays as it is.
abbrev pub IsAdvised : LineFault → LineFault → Type 0
IsAdvised (Usage kind text) told = IsMistake told
IsAdvised fault told = told ≡ fault

-- The fault says why these words are no command, or why those are none that are shown in their place.
abbrev pub IsFaultOf : List Text → LineFault → Type 0
IsFaultOf words told =
    (fault : LineFault) × IsAdvised fault told × (IsRefusal words fault ⊎ IsRefusal (map shown_text words) fault)

-- The same of the words that are read.
abbrev pub IsFaultOfWords : {Z : Type 0} → List (String Z) → LineFault → Type 0
IsFaultOfWords words told = (read : List Text) × AreRead words read × IsFaultOf read told
