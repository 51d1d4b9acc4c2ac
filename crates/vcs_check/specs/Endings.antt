-- How the program ends, and what standard output gets then. This project's own.
use Rattle.std.specs.Prelude.{◌≡◌, ◌⊎◌, ℕ, List, None, Option, Result, Ok, Err, String}
use Rattle.std.specs.Io.KnownBytes.{Keeps}
use Rattle.std.specs.declared.io.ErrorKind.{ErrorKind}
use Rattle.std.specs.declared.io.ErrorKind.TheVariants.{OutOfMemory}
use Rattle.command_line.specs.Faults.{UnlessRefused}
use Rattle.command_line.specs.declared.command.LineFault.{LineFault}
use Rattle.command_line.specs.declared.command.LineFault.TheVariants as faults
use Rattle.refused.specs.declared.Refused.{Refused}
use Rattle.refused.specs.declared.Refused.TheVariants.{Of}
use Rattle.refused.specs.declared.Refused.TheVariants as refusals
use Rattle.vcs_check.specs.Commands.{ReadsTwice}
use Rattle.vcs_check.specs.ErrorObjects.{GetsErrorObject, SaysErrors}
use Rattle.vcs_check.specs.Failures.{IsForOutput, IsToldAs}
use Rattle.vcs_check.specs.Lines.{IsFaultOfWords, IsLineOfWords}
use Rattle.vcs_check.specs.declared.failure.Failure.{Failure}
use Rattle.vcs_check.specs.declared.failure.Failure.TheVariants.{Run}
use Rattle.vcs_check.specs.declared.answered.Answered.{Answered}
use Rattle.vcs_check.specs.declared.ending.Ending.{Ending}
use Rattle.vcs_check.specs.declared.ending.Ending.TheVariants.{Help, Usage, NotUtf8, Twice, Failed}
use Rattle.command_line.specs.declared.command.CommandLine.{CommandLine}
use Rattle.commands.specs.Status.{status_code}
use Rattle.commands.specs.declared.run_error.RunError.TheVariants.{NoMemory}

-- The exit status: help is no error.
abbrev pub exit_code : Ending → ℕ
exit_code (Help text) = 0
exit_code (Usage text) = 4
exit_code NotUtf8 = 4
exit_code Twice = 4
exit_code (Failed failure) = 5

-- The exit status after an ending was printed: help that standard output doesn't take is an error.
abbrev pub IsReported : Ending → ℕ → Type 0
IsReported ending code = (code ≡ exit_code ending) ⊎ ((exit_code ending ≡ 0) × (code ≡ 5))

-- The arguments could not be read: out of memory, and else one of them is not UTF-8.
abbrev pub of_kind : ErrorKind → Ending
of_kind OutOfMemory = Failed (Run NoMemory None)
of_kind _ = NotUtf8

-- The arguments are no command, or memory was refused.
abbrev pub of_refused : Refused LineFault → Ending
of_refused (Of (faults.Help text)) = Help text
of_refused (Of (faults.Usage kind text)) = Usage text
of_refused refusals.NoMemory = Failed (Run NoMemory None)

-- It is how the program ends of which these are the words: for a fault, or refused memory, or since
-- both inputs of their command line are standard input.
abbrev pub IsEndingOfWords : {Z : Type 0} → List (String Z) → Ending → Type 0
IsEndingOfWords words ending =
    ((refused : Refused LineFault) × UnlessRefused (IsFaultOfWords words) refused × (ending ≡ of_refused refused))
    ⊎ ((line : CommandLine) × IsLineOfWords words line × ReadsTwice line × (ending ≡ Twice))

-- What standard output gets after a failure: of a command that answers in JSON there an object, and
-- else nothing. It also gets nothing if the failure isn't for it.
abbrev pub GetsReason : CommandLine → Failure → (old new : Option (List ℕ)) → Type 0
GetsReason line failure old new =
    (SaysErrors line → GetsErrorObject failure old new) × ((SaysErrors line → ⊥) → Keeps old new)
    × ((IsForOutput failure → ⊥) → Keeps old new)

-- How a command line ends that was answered so: with its status, but with 5 if standard output didn't
-- take all of the answer, and nothing more is there; or with 5, and the failure's message.
abbrev pub Concludes : CommandLine → (old new : Option (List ℕ)) → Result Answered Failure → ℕ → Type 0
Concludes line old new (Ok answered) code = ((code ≡ status_code answered.status) ⊎ (code ≡ 5)) × Keeps old new
Concludes line old new (Err failure) code = (code ≡ exit_code (Failed failure)) × (told : Failure) × IsToldAs failure told × GetsReason line told old new
