-- What is written of a movie that is judged, and the status. This project's own.
use Rattle.std.specs.Prelude.{◌≡◌, ℕ, List, [], ◌∷◌, ◌++◌, codes, length}
use Rattle.std.specs.Fmt.{decimal}
use Rattle.movie_file.specs.Movie.{MovieData}
use Rattle.picture_file.specs.PictureBytes.{pictures_bytes}
use Rattle.replay_segments.specs.Verdicts.{IsVerdict}
use Rattle.replay_plan.specs.declared.keep.Keep.{Keep}
use Rattle.replay_plan.specs.declared.notation.Notation.{Notation}
use Rattle.replay_plan.specs.declared.notation.Notation.TheVariants.{Lines, Json}
use Rattle.replay_segments.specs.declared.verdict.Verdict.{Verdict}
use Rattle.replay_segments.specs.declared.verdict.Verdict.TheVariants.{Genuine, FalseCheckpoint}
use Rattle.replay_segments.specs.declared.verdict.Verdict.TheVariants.{Fault}
use Rattle.movie_report.specs.VerdictHeads.{verdict_head}
use Rattle.commands.specs.Answers.{AnswerData, text_answer}
use Rattle.commands.specs.Lines.{line_bytes, status_of}
use Rattle.commands.specs.declared.line.Line.{Line}
use Rattle.commands.specs.declared.line.Line.TheVariants as lines

-- The line of a movie with this verdict.
abbrev pub verdict_line : MovieData → Verdict → Line
verdict_line m (Genuine kept) = lines.Genuine (length m.inputs) (length m.checkpoints)
verdict_line m (FalseCheckpoint number frame) = lines.FalseCheckpoint number frame
verdict_line m (Fault frame kind) = lines.Fault frame kind

-- The object of it: the members that a report begins with, and of a genuine movie how many frames and
-- checkpoints it has.
abbrev pub verdict_object : MovieData → Verdict → List ℕ
verdict_object m (Genuine kept) =
    verdict_head (Genuine kept) ++ (codes ",\"frames\":" ++ (decimal (length m.inputs)
    ++ (codes ",\"checkpoints\":" ++ (decimal (length m.checkpoints) ++ (codes "}" ++ 10 ∷ [])))))
verdict_object m other = verdict_head other ++ (codes "}" ++ 10 ∷ [])

abbrev pub verdict_text : Notation → MovieData → Verdict → List ℕ
verdict_text Lines m verdict = line_bytes (verdict_line m verdict)
verdict_text Json m verdict = verdict_object m verdict

-- The pictures of a genuine movie.
abbrev pub pictures_of : Verdict → List ℕ
pictures_of (Genuine kept) = pictures_bytes kept
pictures_of other = []

-- That line or object, and the pictures.
abbrev pub verdict_answer : Notation → MovieData → Verdict → AnswerData
verdict_answer notation m verdict =
    record (text_answer (status_of (verdict_line m verdict)) (verdict_text notation m verdict)) { file = pictures_of verdict }

-- Those of the movie's verdict.
abbrev pub Verifies : Notation → Keep → MovieData → AnswerData → Type 0
Verifies notation keep m answer = (verdict : Verdict) × IsVerdict m keep verdict × (answer ≡ verdict_answer notation m verdict)
