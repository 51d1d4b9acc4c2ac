-- What is written of the pictures of a movie's run, and the status. This project's own.
use Rattle.std.specs.Prelude.{◌≡◌, ◌⊎◌, ◌≤◌, ℕ, ◌-◌, List, Option}
use Rattle.std.specs.Io.KnownBytes.{Appends}
use Rattle.vcs_machine.specs.declared.fault.FaultKind.{FaultKind}
use Rattle.movie_file.specs.Movie.{MovieData}
use Rattle.picture_file.specs.PictureBytes.{pictures_bytes}
use Rattle.commands.specs.Answers.{AnswerData, line_answer}
use Rattle.run_cursor.specs.RunFaults.{FaultsWithin}
use Rattle.commands.specs.AskedFrames.{frames_asked, last_asked, Ends, pictures_after}
use Rattle.commands.specs.Remarks.{no_frame}
use Rattle.commands.specs.declared.line.Line.{Line}
use Rattle.commands.specs.declared.line.Line.TheVariants as lines

-- The pictures of the frames that are asked for, up to a fault, and a line; and how many frames there
-- are, if none of those.
abbrev pub drawn : MovieData → ℕ → ℕ → Line → AnswerData
drawn m first count line =
    record (line_answer line) { file = pictures_bytes (pictures_after m (first - 1) (frames_asked m first count)); remark = no_frame m first }

-- What is written of a movie: the pictures and how many they are, if each frame up to the last one
-- that is asked for ends; or those before the fault, and its line. Frames after that one, and what
-- the movie claims, are not looked at.
abbrev pub Draws : MovieData → ℕ → ℕ → AnswerData → Type 0
Draws m first count answer =
    (Ends m (last_asked m first count) × (answer ≡ drawn m first count (lines.Pictures (frames_asked m first count))))
    ⊎ ((frame : ℕ) × (kind : FaultKind) × FaultsWithin m (last_asked m first count) frame kind
    × (answer ≡ drawn m first count (lines.Fault frame kind)))

-- A writer has got the pictures of the first so many of the frames that are asked for, each whole.
abbrev pub AppendsPictures : MovieData → ℕ → ℕ → Option (List ℕ) → Option (List ℕ) → Type 0
AppendsPictures m first count old new =
    (k : ℕ) × (k ≤ frames_asked m first count) × Appends old new (pictures_bytes (pictures_after m (first - 1) k))
