-- What is known of a file, and of one that failed. This project's own.
use Rattle.std.specs.Prelude.{◌≡◌, ◌⊎◌, ℕ, ◌-◌, codes, ◌≤◌, min, nat_lt, option_map, if◌then◌else◌, Bool, true, false, List, Option, Some, None, IfSome, IsSomeAnd}
use Rattle.named_files.specs.declared.file_error.FileError.{FileError}
use Rattle.named_files.specs.declared.file_error.Reason.{Reason}
use Rattle.named_files.specs.declared.named.Named.{Named}
use Rattle.named_files.specs.declared.file_error.Reason.TheVariants.{ErrorIsInput, IsInput, NoFreeName, NotCopied, OutputIsInput, System, TooLong}
use Rattle.std.specs.IoError.{error_kind}
use Rattle.std.specs.declared.io.ErrorKind.{ErrorKind}
use Rattle.std.specs.declared.io.ErrorKind.TheVariants.{AlreadyExists, BrokenPipe, InvalidInput, ReadOnlyFilesystem, Unsupported}
use Rattle.input_limit.specs.Limits.{input_limit}

-- It is the file of this name.
abbrev pub Names : List ℕ → FileError → Type 0
Names name error = error.file.now ≡ name

-- It is the file of this name, with this reason.
abbrev pub IsAbout : List ℕ → Reason → FileError → Type 0
IsAbout name reason error = Names name error × (error.reason ≡ reason)

-- It was opened under this name: nothing was read of it, and it has not failed.
abbrev pub IsOpened : {S : Type 0} → List ℕ → Named S → Type 0
IsOpened name named = (named.name.now ≡ name) × (named.length ≡ 0) × (named.reason ≡ None)

-- It is why this file failed, if it has, by its name.
abbrev pub IsErrorOf : {S : Type 0} → Named S → Option FileError → Type 0
IsErrorOf named None = named.reason ≡ None
IsErrorOf named (Some error) = IsSomeAnd named.reason (λ reason. IsAbout named.name.now reason error)

-- Why a file is no output of a command, by whether it keeps what is written, is a pipe, and is an
-- input of the command, and by what keeps it from being one as it is a standard stream. What keeps
-- nothing may be all of these, but a pipe would wait for itself.
abbrev pub conflict : Bool → Bool → Bool → Option Reason → Option Reason
conflict true is_pipe true stream = Some IsInput
conflict false true true stream = Some IsInput
conflict true is_pipe false stream = stream
conflict false true false stream = None
conflict false false is_input stream = None

-- Why an output failed that is written beside, by the kind of the system's error: a file beside it
-- has to be a new one.
abbrev pub reason_of_kind : ErrorKind → Reason → Reason
reason_of_kind AlreadyExists reason = NoFreeName
reason_of_kind kind reason = reason

-- The same where all that was written is kept in a file beside it, of this digit, which could not be
-- copied.
abbrev pub reason_beside : Option ℕ → Reason → Reason
reason_beside (Some digit) (System error) = NotCopied error digit
reason_beside None (System error) = reason_of_kind (error_kind error) (System error)
reason_beside kept reason = reason

-- It is the system's error of this kind.
abbrev pub HasKind : ErrorKind → Reason → Type 0
HasKind kind (System error) = error_kind error ≡ kind
HasKind kind reason = ⊥

-- The system has no sync for files of this kind, as pipes, and so says nothing of their bytes.
abbrev pub IsNeverSynced : ErrorKind → Type 0
IsNeverSynced InvalidInput = Unit {0}
IsNeverSynced Unsupported = Unit {0}
IsNeverSynced ReadOnlyFilesystem = Unit {0}
IsNeverSynced kind = ⊥

-- It is a standard stream that is also an input.
abbrev pub IsInputStream : FileError → Type 0
IsInputStream error = IsAbout (codes "standard error") ErrorIsInput error ⊎ IsAbout (codes "standard output") OutputIsInput error

-- No message says why a file failed: it is a pipe that nobody reads any more, or standard error would
-- come into an input.
abbrev pub IsUntold : Reason → Type 0
IsUntold ErrorIsInput = Unit {0}
IsUntold reason = HasKind BrokenPipe reason

-- Standard output gets the error, if errors go there: it isn't itself what would come into an input.
abbrev pub IsForOutput : Reason → Type 0
IsForOutput OutputIsInput = ⊥
IsForOutput reason = IsUntold reason → ⊥

-- Why a stream failed of which so many bytes were read, and which had failed before as is said: no
-- input has so many.
abbrev pub reason_at_length : ℕ → Option Reason → Option Reason
reason_at_length length before = if nat_lt input_limit length then Some TooLong else before

-- How many of so many bytes a file takes that has room for so many, or for all.
abbrev pub within_quota : Option ℕ → ℕ → ℕ
within_quota None bytes = bytes
within_quota (Some left) bytes = min left bytes

-- It has room for so many.
abbrev pub HasRoom : Option ℕ → ℕ → Type 0
HasRoom left bytes = IfSome left (λ bytes_left. bytes ≤ bytes_left)

-- How many bytes a file still takes after so many more, if there is a limit.
abbrev pub left_after : ℕ → Option ℕ → Option ℕ
left_after bytes left = option_map (λ bytes_left. bytes_left - bytes) left
