-- Which file a failure is about. This project's own.
use Rattle.std.specs.Prelude.{Option, None, IsSomeAnd}
use Rattle.named_files.specs.FileErrors.{IsUntold as IsFileUntold}
use Rattle.named_files.specs.declared.file_error.FileError.{FileError}
use Rattle.vcs_check.specs.Failures.{file_error_of}
use Rattle.vcs_check.specs.declared.ending.Ending.{Ending}
use Rattle.vcs_check.specs.declared.ending.Ending.TheVariants.{Failed}
use Rattle.vcs_check.specs.declared.failure.Failure.{Failure}
use Rattle.vcs_check.specs.declared.failure.Failure.TheVariants.{Run}
use Rattle.commands.specs.declared.run_error.RunError.TheVariants.{ReadFault, TooLong, WriteFault}

-- No message says why a file failed.
abbrev pub IsUntold : Failure → Type 0
IsUntold failure = IsSomeAnd (file_error_of failure) (λ file_error. IsFileUntold file_error.reason)

-- The program ends without a text: nobody reads it any more, or it would come into an input.
abbrev pub IsSilent : Ending → Type 0
IsSilent (Failed failure) = IsUntold failure
IsSilent ending = ⊥

-- The same failure by the error of an input, if a read failed and no error of a file is known,
abbrev pub by_input : Failure → Option FileError → Failure
by_input (Run ReadFault None) file_error = Run ReadFault file_error
by_input (Run TooLong None) file_error = Run TooLong file_error
by_input failure file_error = failure

-- and by that of an output, if a write failed.
abbrev pub by_output : Failure → Option FileError → Failure
by_output (Run WriteFault None) file_error = Run WriteFault file_error
by_output failure file_error = failure
