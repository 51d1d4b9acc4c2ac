-- What is said of an error in JSON. This project's own; quotes and escapes are those of RFC 8259.
use Rattle.std.specs.Prelude.{◌≡◌, List, ℕ, ◌++◌, Option, Some, None, codes}
use Rattle.json.specs.Print.{quoted}
use Rattle.command_line.specs.declared.command.CommandLine.{CommandLine}
use Rattle.named_files.specs.declared.file_error.FileError.{FileError}
use Rattle.picture_file.specs.Prefixes.{AppendsPrefix}
use Rattle.replay_plan.specs.declared.notation.Notation.TheVariants.{Json}
use Rattle.vcs_check.specs.Commands.{TakesFile}
use Rattle.vcs_check.specs.Failures.{file_error_of}
use Rattle.vcs_check.specs.declared.failure.Failure.{Failure}

-- Standard output gets the errors of a command: it answers in JSON, and there.
abbrev pub SaysErrors : CommandLine → Type 0
SaysErrors line = (line.notation ≡ Json) × (TakesFile line → ⊥)

-- The object of an error about no file,
abbrev pub error_object : List ℕ → List ℕ
error_object error = codes "{\"error\":" ++ (quoted error ++ codes "}")

-- and of one about this file, for this reason.
abbrev pub file_error_object : (error file reason : List ℕ) → List ℕ
file_error_object error file reason =
    codes "{\"error\":" ++ (quoted error ++ (codes ",\"file\":" ++ (quoted file ++ (codes ",\"reason\":" ++ (quoted reason ++ codes "}")))))

-- The object of a failure, of which the file that failed may be known. Its texts are those of the lines
-- on standard error, of which no proof speaks.
abbrev pub IsObjectOf : Option FileError → List ℕ → Type 0
IsObjectOf None object = (error : List ℕ) × (object ≡ error_object error)
IsObjectOf (Some file_error) object = (error reason : List ℕ) × (object ≡ file_error_object error file_error.file.now reason)

-- It is a line.
abbrev pub IsErrorObject : Failure → List ℕ → Type 0
IsErrorObject failure text = (object : List ℕ) × IsObjectOf (file_error_of failure) object × (text ≡ object ++ codes "\n")

-- A writer got it, or a part, if it takes no more or there is no memory for it.
abbrev pub GetsErrorObject : Failure → (old new : Option (List ℕ)) → Type 0
GetsErrorObject failure old new = (text : List ℕ) × IsErrorObject failure text × AppendsPrefix old new text
