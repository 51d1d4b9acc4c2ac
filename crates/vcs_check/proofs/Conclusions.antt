-- How a command line ends that was answered.
use Rattle.std.proofs.Common.{◌≡◌, ◌⊎◌, None, Some, Option, List, ℕ, Ok, Err, Result, refl, subst, sym}
use Rattle.std.specs.Io.KnownBytes.{Keeps}
use Rattle.picture_file.proofs.BytesWritten.{keeps_same}
use Rattle.command_line.specs.declared.command.CommandLine.{CommandLine}
use Rattle.commands.specs.Status.{status_code}
use Rattle.commands.specs.declared.run_error.RunError.TheVariants.{NoMemory, NoThread, ReadFault, TooLong, WriteFault}
use Rattle.vcs_check.specs.declared.answered.Answered.{Answered}
use Rattle.named_files.specs.declared.file_error.FileError.{FileError}
use Rattle.vcs_check.specs.Endings.{Concludes}
use Rattle.vcs_check.specs.ErrorObjects.{GetsErrorObject, SaysErrors}
use Rattle.vcs_check.specs.Failures.{IsForOutput, IsToldAs}
use Rattle.vcs_check.specs.Private.FileErrors.{by_input, by_output}
use Rattle.vcs_check.specs.declared.failure.Failure.{Failure}
use Rattle.vcs_check.specs.declared.failure.Failure.TheVariants.{Open, Run}

keeps_equal : (old new : Option (List ℕ)) → new ≡ old → Keeps old new
keeps_equal old new is = let P : Option (List ℕ) → Type 0 = λ x. Keeps old x in subst P (sym is) (keeps_same old)

-- The file that is added changes nothing else.
told_as : (was : Failure) (one two three : Option FileError) → IsToldAs was (by_output (by_output (by_input was one) two) three)
told_as (Open file_error) one two three = refl
told_as (Run ReadFault None) one two three = (one, refl)
told_as (Run ReadFault (Some file_error)) one two three = refl
told_as (Run TooLong None) one two three = (one, refl)
told_as (Run TooLong (Some file_error)) one two three = refl
told_as (Run WriteFault None) one None three = (three, refl)
told_as (Run WriteFault None) one (Some two) three = (Some two, refl)
told_as (Run WriteFault (Some file_error)) one two three = refl
told_as (Run NoMemory None) one two three = (None, refl)
told_as (Run NoMemory (Some file_error)) one two three = refl
told_as (Run NoThread None) one two three = (None, refl)
told_as (Run NoThread (Some file_error)) one two three = refl

-- With an answer, after which nothing is written.
pub settled : (line : CommandLine) (old new : Option (List ℕ)) (answer : Result Answered Failure) (end : Answered) (code : ℕ) → answer ≡ Ok end
    → (code ≡ status_code end.status) ⊎ (code ≡ 5) → Keeps old new → Concludes line old new answer code
settled line old new answer end code is ends kept =
    let P : Result Answered Failure → Type 0 = λ x. Concludes line old new x code in subst P (sym is) (ends, kept)

-- With a failure to which the standard streams were added.
pub failed : (line : CommandLine) (old new : Option (List ℕ)) (answer : Result Answered Failure) (was now : Failure) (one two three : Option FileError)
    (code : ℕ) → answer ≡ Err was → now ≡ by_output (by_output (by_input was one) two) three → code ≡ 5
    → (SaysErrors line → GetsErrorObject now old new) → ((SaysErrors line → ⊥) → new ≡ old) → ((IsForOutput now → ⊥) → new ≡ old)
    → Concludes line old new answer code
failed line old new answer was now one two three code is told five object none not_for_it =
    let P : Result Answered Failure → Type 0 = λ x. Concludes line old new x code in
    let Q : Failure → Type 0 = λ x. IsToldAs was x in
    subst P (sym is) (five, now, subst Q (sym told) (told_as was one two three), (object, (λ silent. keeps_equal old new (none silent)), λ other. keeps_equal old new (not_for_it other)))
