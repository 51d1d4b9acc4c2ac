-- The tracing of a frame instruction by instruction. This project's own.
use Rattle.std.specs.Prelude.{◌≡◌, ℕ, List, Option, Some, None}
use Rattle.std.specs.Io.KnownBytes.{Appends}
use Rattle.vcs_machine.specs.Faults.{kind_of}
use Rattle.movie_machine.specs.Instructions.{Ended, Faulted, Overlong, Reaches, Stop, Underway}
use Rattle.vcs_machine.specs.declared.fault.FaultKind.{FaultKind}
use Rattle.vcs_machine.specs.declared.fault.FaultKind.TheVariants.{Overlong as TooLong}
use Rattle.commands.specs.Trace.{instructions}

-- A frame stops so, which ends here if it has no fault.
abbrev pub IsStop : Option FaultKind → Underway → Stop → Type 0
IsStop None here stop = stop ≡ Ended here
IsStop (Some kind) here (Ended there) = ⊥
IsStop (Some kind) here Overlong = kind ≡ TooLong
IsStop (Some kind) here (Faulted fault) = kind ≡ kind_of fault

-- a frame has come here from its start, and the lines of its instructions so far are written
pub record HasWritten (start : Underway) (old new : Option (List ℕ)) (here : Underway) : Type 0 where
  pub count : ℕ
  pub reaches : Reaches start count here
  pub written : Appends old new (instructions start count)
