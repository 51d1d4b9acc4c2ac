-- How the answer of each command is written. This project's own.
use Rattle.command_line.specs.declared.command.Command.{Command}
use Rattle.command_line.specs.declared.command.Command.TheVariants.{Frames, Pictures, Trace, Verify}
use Rattle.command_line.specs.declared.command.Writing.{Writing}
use Rattle.command_line.specs.declared.command.Writing.TheVariants.{FileFirst, GradualPictures, GradualText, TextFirst}

-- A verdict is written before its pictures. Lines about frames and instructions, and the pictures of
-- frames, are written while a run goes on.
abbrev pub writing_of : Command → Writing
writing_of (Verify every keep) = TextFirst
writing_of (Frames first count details) = GradualText
writing_of (Pictures first count) = GradualPictures
writing_of (Trace frame) = GradualText
writing_of other = FileFirst
