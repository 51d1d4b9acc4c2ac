-- What is written of a frame that is traced.
use Rattle.std.proofs.Common.{◌≡◌, ℕ, ◌-◌, ◌≤◌, List, ◌++◌, length, Option, Some, None, refl, append_assoc, inl, inr}
use Rattle.picture_file.specs.Prefixes.{AppendsPrefix}
use Rattle.std.specs.Io.KnownBytes.{Appends, Keeps}
use Rattle.picture_file.proofs.BytesWritten.{appends_kept, prefix_longer}
use Rattle.std.specs.Prelude.{slice_get}
use Rattle.movie_machine.specs.Instructions.{Underway, Reaches, Stop, StopsAfter, Ended, Overlong, Faulted, begun}
use Rattle.movie_machine.specs.declared.cart.Cart.{Cart}
use Rattle.movie_machine.specs.declared.state.State.{State}
use Rattle.vcs_machine.specs.Inputs.{InputData}
use Rattle.vcs_machine.specs.declared.fault.FaultKind.{FaultKind}
use Rattle.movie_file.specs.Movie.{MovieData}
use Rattle.movie_file.specs.Run.{run}
use Rattle.commands.specs.declared.status.Status.{Status}
use Rattle.commands.specs.declared.status.Status.TheVariants as statuses
use Rattle.commands.specs.Lines.{line_bytes}
use Rattle.run_cursor.specs.RunFaults.{FaultsWithin}
use Rattle.commands.specs.Private.Tracing.{IsStop}
use Rattle.commands.specs.Trace.{AppendsInstructions, Begins, Traces, instructions, last_line, status_of}
use Rattle.commands.specs.declared.line.Line.TheVariants as lines
use Rattle.commands.proofs.TraceSteps.{begun_fresh, lines_begin, reached_at, stops_later}

-- A frame of the movie's run begins so.
pub begins_with : (m : MovieData) (frame : ℕ) (cart : Cart) (state : State) (input : InputData) (start : Underway) → cart ≡ m.cartridge
    → run m m.start 0 (frame - 1) ≡ Some state → slice_get m.inputs (frame - 1) ≡ Some input → begun cart state input ≡ Some start → Begins m frame start
begins_with m frame cart state input start same ran there so =
    record { state = state; input = input; ran = ran; there = there; begun_so = rw same at so }

module _ (m : MovieData) (frame : ℕ) (start : Underway) (begins : Begins m frame start) where
  -- All instructions, and the line of the frame.
  traced : (count : ℕ) (stop : Stop) → StopsAfter start count stop
      → Traces m frame (status_of stop) (instructions start count ++ line_bytes (last_line frame stop))
  traced count stop stops = inr (inr (start, begins, record { count = count; stop = stop; stops = stops; text_is = refl; status_is = refl }))

  pub traced_end : (count : ℕ) (here : Underway) (stop : Stop) → StopsAfter start count stop → IsStop None here stop
      → Traces m frame statuses.Done (instructions start count ++ line_bytes (last_line frame (Ended here)))
  traced_end count here stop stops is = traced count (Ended here) (rw is at stops)

  pub traced_fault : (count : ℕ) (kind : FaultKind) (here : Underway) (stop : Stop) → StopsAfter start count stop → IsStop (Some kind) here stop
      → Traces m frame statuses.Fault (instructions start count ++ line_bytes (lines.Fault frame kind))
  traced_fault count kind here (Ended there) stops is = absurd is
  traced_fault count kind here Overlong stops is = rw is (traced count Overlong stops)
  traced_fault count kind here (Faulted fault) stops is = rw is (traced count (Faulted fault) stops)

  -- What is written where the line of the frame isn't: the instructions.
  pub traced_unended : (count : ℕ) (stop : Stop) → StopsAfter start count stop → (a b c : Option (List ℕ)) → Appends a b (instructions start count) → Keeps b c
      → AppendsInstructions m frame a c
  traced_unended count stop stops a b c written kept =
      let at = reached_at start count stop stops in
      (start, count, at.0, begins, at.1, appends_kept a b c (instructions start count) written kept)

  -- A part of the instructions is a part of the whole.
  pub traced_part : (count : ℕ) (here : Underway) → Reaches start count here → (a b : Option (List ℕ))
      → AppendsPrefix a b (instructions start count) → (status : Status) × (text : List ℕ) × Traces m frame status text × AppendsPrefix a b text
  traced_part count here reaches a b part =
      let fresh = begun_fresh m.cartridge begins.state begins.input start begins.begun_so in
      let later = stops_later start fresh.0 fresh.1 count here reaches in
      let more = lines_begin start count later.count later.later in (
        status_of later.stop,
        _,
        traced later.count later.stop later.stops,
        rw (more.1, append_assoc) (prefix_longer a b (instructions start count) _ part),
      )

-- A fault before the frame.
pub fault_before : (m : MovieData) (frame earlier : ℕ) (kind : FaultKind) → frame ≤ length m.inputs → FaultsWithin m (frame - 1) earlier kind
    → Traces m frame statuses.Fault (line_bytes (lines.Fault earlier kind))
fault_before m frame earlier kind there within = inr (inl (earlier, kind, there, within, refl, refl))
