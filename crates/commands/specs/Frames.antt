-- The lines about the frames of a movie's run, one for each, and the status. This
-- project's own.
use Rattle.std.specs.Prelude.{◌≡◌, ◌⊎◌, ◌≤◌, ℕ, ◌-◌, List, []}
use Rattle.std.specs.Prelude.{◌∷◌, ◌++◌, codes, Option}
use Rattle.std.specs.Fmt.{decimal}
use Rattle.std.specs.Io.KnownBytes.{Appends}
use Rattle.vcs_machine.specs.declared.fault.FaultKind.{FaultKind}
use Rattle.movie_file.specs.Movie.{MovieData}
use Rattle.movie_report.specs.VerdictHeads.{fault_members}
use Rattle.replay_plan.specs.declared.notation.Notation.{Notation}
use Rattle.replay_plan.specs.declared.notation.Notation.TheVariants.{Lines, Json}
use Rattle.replay_plan.specs.declared.watches.Details.{Details}
use Rattle.commands.specs.declared.status.Status.{Status}
use Rattle.commands.specs.declared.status.Status.TheVariants as statuses
use Rattle.commands.specs.Lines.{line_bytes}
use Rattle.run_cursor.specs.RunFaults.{FaultsWithin}
use Rattle.commands.specs.AskedFrames.{frames_asked, from_frames, last_asked, Ends}
use Rattle.commands.specs.declared.line.Line.TheVariants as lines
use Rattle.frame_text.specs.FrameLines.{frame_line}

-- The lines of the first so many of the frames that are asked for, in order, up to a fault.
abbrev pub first_lines : MovieData → Notation → Details → ℕ → ℕ → List ℕ
first_lines m notation details first k = from_frames (frame_line m notation details) (first - 1) k

-- All of them.
abbrev pub lines_asked : MovieData → Notation → Details → ℕ → ℕ → List ℕ
lines_asked m notation details first count = first_lines m notation details first (frames_asked m first count)

-- The last line or object, of a frame that faults.
abbrev pub fault_line : Notation → ℕ → FaultKind → List ℕ
fault_line Lines frame kind = line_bytes (lines.Fault frame kind)
fault_line Json frame kind = codes "{\"frame\":" ++ (decimal frame ++ (fault_members kind ++ (codes "}" ++ 10 ∷ [])))

-- What is written of a movie: these lines, and after them nothing, if each frame up to the last one
-- that is asked for ends, or the line of the fault. Frames after that one are not looked at.
abbrev pub Describes : MovieData → Notation → Details → ℕ → ℕ → Status → List ℕ → Type 0
Describes m notation details first count status text =
    (Ends m (last_asked m first count) × (status ≡ statuses.Done) × (text ≡ lines_asked m notation details first count))
    ⊎ ((frame : ℕ) × (kind : FaultKind) × FaultsWithin m (last_asked m first count) frame kind × (status ≡ statuses.Fault)
    × (text ≡ lines_asked m notation details first count ++ fault_line notation frame kind))

-- A writer has got the lines of the first so many of the frames that are asked for, each whole.
abbrev pub AppendsLines : MovieData → Notation → Details → ℕ → ℕ → Option (List ℕ) → Option (List ℕ) → Type 0
AppendsLines m notation details first count old new = (k : ℕ) × (k ≤ frames_asked m first count) × Appends old new (first_lines m notation details first k)
