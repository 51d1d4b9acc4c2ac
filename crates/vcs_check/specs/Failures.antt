-- Which failures a command may end with. This project's own.
use Rattle.std.specs.Prelude.{◌≡◌, Option, Some, None, IfSome}
use Rattle.named_files.specs.FileErrors.{IsForOutput as IsFileForOutput}
use Rattle.named_files.specs.declared.file_error.FileError.{FileError}
use Rattle.vcs_check.specs.declared.failure.Failure.{Failure}
use Rattle.vcs_check.specs.declared.failure.Failure.TheVariants.{Open, Run}
use Rattle.commands.specs.declared.run_error.RunError.TheVariants.{NoMemory, NoThread, WriteFault}

-- A write failed,
abbrev pub IsWriteFault : Failure → Type 0
IsWriteFault (Run WriteFault file_error) = Unit {0}
IsWriteFault other = ⊥

-- memory was refused,
abbrev pub IsNoMemory : Failure → Type 0
IsNoMemory (Run NoMemory file_error) = Unit {0}
IsNoMemory other = ⊥

-- a thread was refused.
abbrev pub IsNoThread : Failure → Type 0
IsNoThread (Run NoThread file_error) = Unit {0}
IsNoThread other = ⊥

-- The file that failed, if it is known.
abbrev pub file_error_of : Failure → Option FileError
file_error_of (Open file_error) = Some file_error
file_error_of (Run error file_error) = file_error

-- Standard output gets the failure, if errors go there.
abbrev pub IsForOutput : Failure → Type 0
IsForOutput failure = IfSome (file_error_of failure) (λ file_error. IsFileForOutput file_error.reason)

-- The message is about this failure, of which the file may be known by now.
abbrev pub IsToldAs : Failure → Failure → Type 0
IsToldAs (Run error None) told = (file_error : Option FileError) × (told ≡ Run error file_error)
IsToldAs failure told = told ≡ failure
