-- What is written of the instructions of one frame of a movie's run, and the status: a line for each
-- instruction, and one of the frame. This project's own.
use Rattle.std.specs.Prelude.{◌≡◌, ◌⊎◌, ◌<◌, ◌≤◌, ℕ, ◌-◌, List, ◌++◌, length, slice_get, Some, Option}
use Rattle.std.specs.Io.KnownBytes.{Appends}
use Rattle.std.specs.List.{flat_map}
use Rattle.movie_machine.specs.Instructions.{ExecutedData, Underway, begun, cycles_of, executed, rows_of}
use Rattle.movie_machine.specs.Instructions.{Ended, Faulted, Overlong, Reaches, Stop, StopsAfter}
use Rattle.movie_machine.specs.declared.state.State.{State}
use Rattle.vcs_machine.specs.Faults.{kind_of}
use Rattle.vcs_machine.specs.Inputs.{InputData}
use Rattle.vcs_machine.specs.declared.fault.FaultKind.{FaultKind}
use Rattle.vcs_machine.specs.declared.fault.FaultKind.TheVariants.{Overlong as TooLong}
use Rattle.trace_text.specs.TraceLines.{trace_line}
use Rattle.movie_file.specs.Movie.{MovieData}
use Rattle.movie_file.specs.Run.{run}
use Rattle.commands.specs.declared.status.Status.{Status}
use Rattle.commands.specs.declared.status.Status.TheVariants as statuses
use Rattle.commands.specs.Lines.{line_bytes}
use Rattle.run_cursor.specs.RunFaults.{FaultsWithin}
use Rattle.commands.specs.declared.line.Line.{Line}
use Rattle.commands.specs.declared.line.Line.TheVariants as lines

-- The lines of some instructions.
abbrev pub lines_of : List ExecutedData → List ℕ
lines_of instructions = flat_map trace_line instructions

-- The line of a frame, by how it stops, and the status.
abbrev pub last_line : ℕ → Stop → Line
last_line frame (Ended here) = lines.Frame frame (cycles_of here) (rows_of here)
last_line frame Overlong = lines.Fault frame TooLong
last_line frame (Faulted fault) = lines.Fault frame (kind_of fault)

abbrev pub status_of : Stop → Status
status_of (Ended here) = statuses.Done
status_of Overlong = statuses.Fault
status_of (Faulted fault) = statuses.Fault

-- The first so many instructions of a frame.
abbrev pub instructions : Underway → ℕ → List ℕ
instructions start count = lines_of (executed start count)

-- All of them, up to where the frame stops, and its line.
pub record TracesFrame (frame : ℕ) (start : Underway) (status : Status) (text : List ℕ) : Type 0 where
  pub count : ℕ
  pub stop : Stop
  pub stops : StopsAfter start count stop
  pub text_is : text ≡ instructions start count ++ line_bytes (last_line frame stop)
  pub status_is : status ≡ status_of stop

-- The frame of this number, counted from 1, begins so in the movie's run.
pub record Begins (m : MovieData) (frame : ℕ) (start : Underway) : Type 0 where
  pub state : State
  pub input : InputData
  pub ran : run m m.start 0 (frame - 1) ≡ Some state
  pub there : slice_get m.inputs (frame - 1) ≡ Some input
  pub begun_so : begun m.cartridge state input ≡ Some start

-- What is written of it: that the movie has fewer frames; the first fault before it; or its trace.
abbrev pub Traces : MovieData → ℕ → Status → List ℕ → Type 0
Traces m frame status text =
    ((length m.inputs < frame) × (status ≡ statuses.Refused) × (text ≡ line_bytes (lines.NoFrame frame)))
    ⊎ (((earlier : ℕ) × (kind : FaultKind) × (frame ≤ length m.inputs) × FaultsWithin m (frame - 1) earlier kind
    × (status ≡ statuses.Fault) × (text ≡ line_bytes (lines.Fault earlier kind)))
    ⊎ ((start : Underway) × Begins m frame start × TracesFrame frame start status text))

-- A writer has got the lines of the frame's first so many instructions, each whole.
abbrev pub AppendsInstructions : MovieData → ℕ → Option (List ℕ) → Option (List ℕ) → Type 0
AppendsInstructions m frame old new =
    (start : Underway) × (count : ℕ) × (here : Underway) × Begins m frame start × Reaches start count here
    × Appends old new (instructions start count)
