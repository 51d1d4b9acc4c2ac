-- What is written of a movie that is to be converted, and the status. This project's own.
use Rattle.std.specs.Prelude.{◌==◌, if◌then◌else◌, Some, length}
use Rattle.movie_file.specs.Conversion.{in_version_2}
use Rattle.movie_file.specs.Movie.{MovieData}
use Rattle.movie_hints.specs.declared.hint.Hint.TheVariants as hints
use Rattle.commands.specs.Answers.{AnswerData, line_answer, movie_answer}
use Rattle.commands.specs.Remarks.{known_of}
use Rattle.commands.specs.declared.line.Line.{Line}
use Rattle.commands.specs.declared.line.Line.TheVariants as lines
use Rattle.commands.specs.declared.remark.WhichInput.TheVariants.{First}

-- That it has that version already, or version 3, and what it holds,
abbrev pub conversion_refused : Line → MovieData → AnswerData
conversion_refused line m =
    record (line_answer line) { remark = Some (known_of First (hints.Holds m.version (length m.inputs))) }

-- or the same movie in version 2.
abbrev pub conversion_of : MovieData → AnswerData
conversion_of m =
    if m.version == 2 then conversion_refused lines.AlreadyTwo m
    else if m.version == 3 then conversion_refused lines.AlreadyThree m
    else movie_answer lines.Converted (in_version_2 m)
