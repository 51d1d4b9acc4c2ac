-- The answers of commands about a movie, and about the bytes of one.
use Rattle.std.proofs.Common.{◌≡◌, List, ℕ, [], Option, None, Ok, Err, inl, inr, refl}
use Rattle.std.specs.Io.KnownBytes.{Keeps}
use Rattle.command_line.specs.Program.{program_name}
use Rattle.command_line.specs.declared.command.Command.{Command}
use Rattle.command_line.specs.declared.command.CommandLine.{CommandLine}
use Rattle.command_line.specs.declared.command.Command.TheVariants.{Make}
use Rattle.command_line.specs.declared.command.Writing.{Writing}
use Rattle.command_line.specs.declared.command.Writing.TheVariants.{TextFirst}
use Rattle.movie_file.specs.Movie.{MovieData}
use Rattle.movie_file.specs.Reading.{movie_at}
use Rattle.movie_file.specs.declared.error.MovieError.{MovieError}
use Rattle.picture_file.proofs.BytesWritten.{appends_nothing, keeps_same}
use Rattle.picture_file.specs.Prefixes.{AppendsPrefix}
use Rattle.replay_plan.specs.declared.notation.Notation.{Notation}
use Rattle.commands.specs.Answers.{AnswerData, conclusion_of}
use Rattle.commands.specs.Commands.{Answers, AnswersBytes, AnswersFound, IsAboutMovies, IsAnswered, ReadsFor, ReadsNamed, WritesSome}
use Rattle.commands.specs.Pictures.{Draws}
use Rattle.commands.specs.Refusals.{Refuses}
use Rattle.commands.specs.Remarks.{no_frame}
use Rattle.commands.specs.declared.conclusion.Conclusion.{Conclusion}

module _ (line : CommandLine) (bytes : List ℕ) (a b : Option (List ℕ)) (end : Conclusion) (answer : AnswerData)
    (about : IsAboutMovies line.command) (same : end ≡ conclusion_of answer) where
  about_bytes : (c : Command) (told : AnswerData) (read : Option (List ℕ)) → IsAboutMovies c → ReadsFor line.second (movie_at bytes) a b read
      → AnswersFound c line.notation bytes read (movie_at bytes) told → AnswersBytes c line.notation line.second bytes a b told
  about_bytes (Make form making board) told read never reads found = absurd never
  about_bytes other told read never reads found = (read, reads, found)

  pub of_movie : (m : MovieData) (read : Option (List ℕ)) → movie_at bytes ≡ Ok m → ReadsNamed line.second a b read
      → Answers line.command line.notation bytes read m answer → IsAnswered line bytes a b end answer.text answer.file
  of_movie m read is reads told = rw same (about_bytes line.command answer read about (rw is reads) (rw is told))

  whole : (notation : Notation) (error : MovieError) (told : AnswerData) → Refuses notation program_name bytes error told
      → Refuses notation program_name bytes error (record told { file = [] })
  whole notation error told (hint, explains, is) = (hint, explains, rw is refl)

  pub of_refusal : (error : MovieError) → movie_at bytes ≡ Err error → Keeps a b → Refuses line.notation program_name bytes error answer
      → IsAnswered line bytes a b end answer.text []
  of_refusal error found keeps told = rw same (about_bytes line.command _ None about (rw found (keeps, refl)) (rw found (whole line.notation error answer told)))

-- A text that is not all written, of an answer without a file.
pub text_in_part : (writing : Writing) (a b c : Option (List ℕ)) (text : List ℕ) → AppendsPrefix a b text → WritesSome writing a b text c c []
text_in_part TextFirst a b c text part = inl (part, keeps_same c)
text_in_part other a b c text part = inr (appends_nothing c, part)

-- The remark of the pictures that are asked for.
pub drawn_remark : (m : MovieData) (first count : ℕ) (answer : AnswerData) → Draws m first count answer → answer.remark ≡ no_frame m first
drawn_remark m first count answer (inl all) = rw all.1 refl
drawn_remark m first count answer (inr part) = rw part.3 refl
