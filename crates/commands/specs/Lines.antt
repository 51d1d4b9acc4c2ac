-- The lines that commands write. This project's own.
use Rattle.std.specs.Prelude.{ℕ, List, [], ◌∷◌, ◌++◌, codes}
use Rattle.std.specs.Fmt.{decimal}
use Rattle.vcs_machine.specs.Faults.{fault_text}
use Rattle.movie_file.specs.MovieError.{refusal_text}
use Rattle.frame_text.specs.FrameLines.{frame_text}
use Rattle.commands.specs.declared.line.Line.{Line}
use Rattle.commands.specs.declared.line.Line.TheVariants.{Genuine, FalseCheckpoint, Fault}
use Rattle.commands.specs.declared.line.Line.TheVariants.{Refused, BadLine, Made, Converted}
use Rattle.commands.specs.declared.line.Line.TheVariants.{AlreadyTwo, AlreadyThree, Cartridge, Cut}
use Rattle.commands.specs.declared.line.Line.TheVariants.{Pictures, Frame, NoFrame}
use Rattle.commands.specs.declared.status.Status.{Status}
use Rattle.commands.specs.declared.status.Status.TheVariants as statuses

-- How many frames and checkpoints a movie has.
abbrev pub counts_text : ℕ → ℕ → List ℕ
counts_text frames checkpoints = decimal frames ++ (codes " frames, " ++ (decimal checkpoints ++ codes " checkpoints"))

-- The bytes of a cartridge, and the counts.
abbrev pub contents_text : ℕ → ℕ → ℕ → List ℕ
contents_text cartridge frames checkpoints = codes "cartridge " ++ (decimal cartridge ++ (codes ", " ++ counts_text frames checkpoints))

-- A line, without its end.
abbrev pub line_text : Line → List ℕ
line_text (Genuine frames checkpoints) = codes "genuine: " ++ counts_text frames checkpoints
line_text (FalseCheckpoint number frame) = codes "false checkpoint " ++ (decimal number ++ (codes " at frame " ++ decimal frame))
line_text (Fault frame kind) = codes "fault at frame " ++ (decimal frame ++ (codes ": " ++ fault_text kind))
line_text (Refused error) = codes "refused: " ++ refusal_text error
line_text (BadLine number) = codes "refused: BadLine " ++ decimal number
line_text (Made frames checkpoints) = codes "made: " ++ counts_text frames checkpoints
line_text (Converted frames checkpoints) = codes "converted: " ++ counts_text frames checkpoints
line_text AlreadyTwo = codes "refused: AlreadyTwo"
line_text AlreadyThree = codes "refused: AlreadyThree"
line_text (Cartridge bytes) = codes "cartridge: " ++ (decimal bytes ++ codes " bytes")
line_text (Cut frames checkpoints) = codes "cut: " ++ counts_text frames checkpoints
line_text (Pictures frames) = codes "pictures: " ++ (decimal frames ++ codes " frames")
line_text (Frame frame cycles rows) = frame_text frame cycles rows
line_text (NoFrame frame) = codes "refused: NoFrame " ++ decimal frame

-- With its end, a line feed.
abbrev pub line_bytes : Line → List ℕ
line_bytes line = line_text line ++ 10 ∷ []

-- How a run ended whose last line this is.
abbrev pub status_of : Line → Status
status_of (FalseCheckpoint number frame) = statuses.False
status_of (Fault frame kind) = statuses.Fault
status_of (Refused error) = statuses.Refused
status_of (BadLine number) = statuses.Refused
status_of AlreadyTwo = statuses.Refused
status_of AlreadyThree = statuses.Refused
status_of (NoFrame frame) = statuses.Refused
status_of other = statuses.Done
