-- What a command line reads of standard input and writes to standard output, and its status. This
-- project's own.
use Rattle.std.specs.Prelude.{◌≡◌, ◌⊎◌, ℕ, List, Option, Some, Result, Ok, IfOk, IfErr, codes, option_map, string_bytes}
use Rattle.std.specs.Io.KnownBytes.{Appends, Keeps}
use Rattle.command_line.specs.Writing.{writing_of}
use Rattle.command_line.specs.declared.command.CommandLine.{CommandLine}
use Rattle.command_line.specs.declared.command.Writing.{Writing}
use Rattle.command_line.specs.declared.command.Writing.TheVariants.{GradualPictures, TextFirst}
use Rattle.commands.specs.Commands.{HasBegun, IsAnswered as Answers, IsGradual}
use Rattle.commands.specs.Streams.{ReadsAll}
use Rattle.commands.specs.declared.remark.Remark.{Remark}
use Rattle.commands.specs.declared.status.Status.{Status}
use Rattle.movie_file.specs.Movie.{MovieData}
use Rattle.movie_file.specs.Reading.{movie_at}
use Rattle.picture_file.specs.Prefixes.{AppendsPrefix}
use Rattle.vcs_check.specs.Failures.{IsNoMemory, IsWriteFault}
use Rattle.vcs_check.specs.declared.answered.Answered.{Answered}
use Rattle.vcs_check.specs.declared.failure.Failure.{Failure}

-- What a command writes to a file is pictures.
abbrev pub WritesPictures : Writing → Type 0
WritesPictures TextFirst = Unit {0}
WritesPictures GradualPictures = Unit {0}
WritesPictures other = ⊥

-- The first input is standard input,
abbrev pub ReadsFirst : CommandLine → Type 0
ReadsFirst line = string_bytes line.input ≡ codes "-"

-- the second one is,
abbrev pub ReadsSecond : CommandLine → Type 0
ReadsSecond line = option_map (λ name. string_bytes name) line.second ≡ Some (codes "-")

-- both are, which is no command.
abbrev pub ReadsTwice : CommandLine → Type 0
ReadsTwice line = ReadsFirst line × ReadsSecond line

-- The output is standard output, which gets the file then, and standard error the text.
abbrev pub TakesFile : CommandLine → Type 0
TakesFile line = option_map (λ name. string_bytes name) line.output ≡ Some (codes "-")

-- What was read: the bytes of the first input, and of the second one what it had before and after.
abbrev pub Inputs : Type 1
Inputs = List ℕ → (old new : Option (List ℕ)) → Type 0

-- What is read where standard input has the bytes `old` before it and `new` after it: of an input that
-- it is, all that is left; by a command with no such input nothing.
abbrev pub ReadsInputs : CommandLine → (old new : Option (List ℕ)) → Inputs
ReadsInputs line old new bytes second_old second_new =
    (ReadsFirst line → ReadsAll old new bytes)
    × (ReadsSecond line → (second_old ≡ old) × (second_new ≡ new))
    × ((ReadsFirst line → ⊥) → (ReadsSecond line → ⊥) → Keeps old new)

-- Of the answer about these inputs, with this status, this is the text, or what the output gets.
abbrev pub IsText : CommandLine → List ℕ → (old new : Option (List ℕ)) → Status → List ℕ → Type 0
IsText line bytes old new status text =
    (remark : Option Remark) × (file : List ℕ) × Answers line bytes old new (record { status = status; remark = remark }) text file

abbrev pub IsFile : CommandLine → List ℕ → (old new : Option (List ℕ)) → Status → List ℕ → Type 0
IsFile line bytes old new status file =
    (remark : Option Remark) × (text : List ℕ) × Answers line bytes old new (record { status = status; remark = remark }) text file

-- What standard output gets of the answer of a command line whose inputs were read so.
abbrev pub Says : CommandLine → Inputs → Status → List ℕ → Type 0
Says line Reads status written =
    (bytes : List ℕ) × (old new : Option (List ℕ)) × Reads bytes old new
    × (TakesFile line → IsFile line bytes old new status written)
    × ((TakesFile line → ⊥) → IsText line bytes old new status written)

-- With an answer it gets that, and nothing else.
abbrev pub Writes : CommandLine → Inputs → (old new : Option (List ℕ)) → Result Answered Failure → Type 0
Writes line Reads old new result = IfOk result (λ answered. (written : List ℕ) × Says line Reads answered.status written × Appends old new written)

-- After an error other than a failed write it gets nothing, but if memory ran out, by a command that
-- writes while a run goes on, what came before.
abbrev pub KeepsQuiet : CommandLine → (old new : Option (List ℕ)) → Result Answered Failure → Type 0
KeepsQuiet line old new result =
    IfErr result (λ failure. (IsWriteFault failure → ⊥) → (IsNoMemory failure → IsGradual (writing_of line.command) ⊎ TakesFile line → ⊥) → Keeps old new)

-- What came before: whole lines or pictures.
abbrev pub Begins : CommandLine → Inputs → (old new : Option (List ℕ)) → Type 0
Begins line Reads old new =
    (bytes : List ℕ) × (second_old second_new : Option (List ℕ)) × (m : MovieData) × Reads bytes second_old second_new × (movie_at bytes ≡ Ok m)
    × (TakesFile line → (text_old text_new : Option (List ℕ)) × HasBegun line.command line.notation m text_old text_new old new)
    × ((TakesFile line → ⊥) → (file_old file_new : Option (List ℕ)) × HasBegun line.command line.notation m old new file_old file_new)

-- What it has got of the answer after an error: after a failed write, its own or one of a file, a part,
-- and if memory ran out nothing or what came before.
abbrev pub LeavesPart : CommandLine → Inputs → (old new : Option (List ℕ)) → Result Answered Failure → Type 0
LeavesPart line Reads old new result =
    IfErr result (λ failure.
    (IsWriteFault failure → (status : Status) × (written : List ℕ) × Says line Reads status written × AppendsPrefix old new written)
    × (IsNoMemory failure → Keeps old new ⊎ Begins line Reads old new))
