-- What a command answers: its status, the text that it writes, what it writes to a file, and what is said
-- of an input. This project's own.
use Rattle.std.specs.Prelude.{ℕ, List, [], Option, None, length}
use Rattle.movie_file.specs.Movie.{MovieData}
use Rattle.movie_file.specs.Spelling.{spelling}
use Rattle.commands.specs.Lines.{line_bytes, status_of}
use Rattle.commands.specs.declared.conclusion.Conclusion.{Conclusion}
use Rattle.commands.specs.declared.line.Line.{Line}
use Rattle.commands.specs.declared.remark.Remark.{Remark}
use Rattle.commands.specs.declared.status.Status.{Status}

-- If nothing is written to a file, that list is empty. Most answers say nothing of an input.
pub record AnswerData : Type 0 where
  pub status : Status
  pub text : List ℕ
  pub file : List ℕ
  pub remark : Option Remark

-- How a command ended with it.
abbrev pub conclusion_of : AnswerData → Conclusion
conclusion_of answer = record { status = answer.status; remark = answer.remark }

-- A text alone,
abbrev pub text_answer : Status → List ℕ → AnswerData
text_answer status text = record { status = status; text = text; file = []; remark = None }

-- a line alone,
abbrev pub line_answer : Line → AnswerData
line_answer line = text_answer (status_of line) (line_bytes line)

-- and a movie with a line of how many frames and checkpoints it has.
abbrev pub movie_answer : (ℕ → ℕ → Line) → MovieData → AnswerData
movie_answer line m = record (line_answer (line (length m.inputs) (length m.checkpoints))) { file = spelling m }
