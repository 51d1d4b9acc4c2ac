-- What the answer is if the words are no command. This project's own.
use Rattle.std.specs.Prelude.{◌≡◌, ◌≢◌, ◌⊎◌, ◌++◌, ℕ, Bool, false, not, nat_le, List, Option, Some, None, Result, Ok, Err}
use Rattle.std.specs.Prelude.{IsErr, IsSomeAnd, codes, find, length, slice_index, string_bytes}
use Rattle.std.specs.Fmt.{decimal}
use Rattle.std.specs.List.{flat_map}
use Rattle.cart_board.specs.Boards.{boards}
use Rattle.clap.specs.Words.{IsAmong, Row, Text, fault_of, first_of, subcommand_of}
use Rattle.clap.specs.declared.error.kind.ErrorKind.{ErrorKind}
use Rattle.clap.specs.declared.error.kind.ErrorKind.TheVariants.{DisplayHelp, DisplayVersion}
use Rattle.clap.specs.declared.error.kind.ErrorKind.TheVariants.{OutOfMemory, ValueValidation}
use Rattle.hex.specs.Hex.{decode_sized}
use Rattle.hex.specs.declared.error.FromHexError.{FromHexError}
use Rattle.replay_plan.specs.Limits.{first_address}
use Rattle.command_line.specs.Meanings.{HasAddresses, board_named, byte_in, words_of}
use Rattle.command_line.specs.Table.{board_row, frames_listed, make_listed, program_app, report_listed, sha256_row, watch_row}
use Rattle.command_line.specs.declared.command.LineFault.{LineFault}
use Rattle.command_line.specs.declared.command.LineFault.TheVariants.{Usage, Help}
use Rattle.refused.specs.declared.Refused.{Refused}
use Rattle.refused.specs.declared.Refused.TheVariants.{NoMemory, Of}

-- It holds of the fault, unless there is none since memory was refused.
abbrev pub UnlessRefused : (LineFault → Type 0) → Refused LineFault → Type 0
UnlessRefused P (Of fault) = P fault
UnlessRefused P NoMemory = Unit {0}

-- The answer to an error of this kind: help and the version are what was asked for, a refused
-- allocation is no mistake, and each other kind is one of that kind.
abbrev pub IsAnswerTo : ErrorKind → LineFault → Type 0
IsAnswerTo kind (Usage told text) =
    (told ≡ kind) × (kind ≢ OutOfMemory) × (kind ≢ DisplayHelp) × (kind ≢ DisplayVersion)
IsAnswerTo kind (Help text) = (kind ≡ DisplayHelp) ⊎ (kind ≡ DisplayVersion)

-- A byte that was read is an address of the memory.
abbrev pub is_in_memory : Result (List ℕ) FromHexError → Bool
is_in_memory (Ok bytes) = nat_le first_address (slice_index bytes 0)
is_in_memory (Err error) = false

-- The first word that writes no address of the memory.
abbrev pub first_no_address : List Text → Option Text
first_no_address words = find (λ word. not (is_in_memory (byte_in word))) words

-- What is said of such a word, or if there is none, of so many words.
abbrev pub no_address_text : Option Text → ℕ → Text
no_address_text (Some word) count =
    codes "error: invalid value '" ++ (word ++ codes "' for '--watch <AA>': an address of the memory is 80 to FF, or '$80' to '$FF' in quotes\n")
no_address_text None count =
    codes "error: '--watch <AA>' stands " ++ (decimal count ++ codes " times: at most 16, and --memory shows all bytes\n")

abbrev pub watch_mistake : List Text → Text
watch_mistake words = no_address_text (first_no_address words) (length words)

-- The answer to the values of `frames` of which a word writes no address, or there are too many
-- addresses.
abbrev pub IsNoFrames : List Row → LineFault → Type 0
IsNoFrames rows (Usage kind text) =
    (HasAddresses rows → ⊥) × (kind ≡ ValueValidation) × (string_bytes text ≡ watch_mistake (words_of watch_row rows))
IsNoFrames rows (Help text) = ⊥

-- What is said of a word that writes no digest.
abbrev pub digest_mistake : Text → Text
digest_mistake word =
    codes "error: invalid value '" ++ (word ++ codes "' for '--sha256 <DIGEST>': a SHA-256 is 64 hexadecimal digits\n")

-- The answer to the values of `report` of which the digest is none.
abbrev pub IsNoReport : List Row → LineFault → Type 0
IsNoReport rows (Usage kind text) =
    (kind ≡ ValueValidation)
    × IsSomeAnd (first_of sha256_row.name rows) (λ word. IsErr (decode_sized word 32) × (string_bytes text ≡ digest_mistake word))
IsNoReport rows (Help text) = ⊥

-- What is said of a word that names no board: which boards there are.
abbrev pub board_mistake : Text → Text
board_mistake word =
    codes "error: invalid value '" ++ (word ++ (codes "' for '--board <NAME>': the boards are" ++ (flat_map (λ row. codes " " ++ row.name) boards ++ codes "\n")))

-- The answer to the values of `make` of which the board is none.
abbrev pub IsNoMaking : List Row → LineFault → Type 0
IsNoMaking rows (Usage kind text) =
    (kind ≡ ValueValidation)
    × IsSomeAnd (first_of board_row.name rows) (λ word. (board_named word ≡ None) × (string_bytes text ≡ board_mistake word))
IsNoMaking rows (Help text) = ⊥

-- `clap` finds a mistake or a request of this kind in the words, and this is the answer to it.
abbrev pub IsFound : List Text → LineFault → Type 0
IsFound words fault =
    (kind : ErrorKind) × IsAmong kind (fault_of program_app words) × IsAnswerTo kind fault

-- The answer to the values of the command of this name, if there is no command.
abbrev pub HasBadValue : Text → List Row → LineFault → Type 0
HasBadValue name rows fault =
    ((name ≡ frames_listed.name) × IsNoFrames rows fault) ⊎ ((name ≡ report_listed.name) × IsNoReport rows fault)
    ⊎ ((name ≡ make_listed.name) × IsNoMaking rows fault)

-- The answer to words that are no command.
abbrev pub IsRefusal : List Text → LineFault → Type 0
IsRefusal words fault =
    IsFound words fault
    ⊎ IsSomeAnd (subcommand_of program_app words) (λ met. HasBadValue met.0 met.1 fault)
