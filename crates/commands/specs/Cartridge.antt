-- What is written of a movie's cartridge, and the status. This project's own.
use Rattle.std.specs.Prelude.{length}
use Rattle.movie_machine.specs.Carts.{bytes_of}
use Rattle.movie_file.specs.Movie.{MovieData}
use Rattle.commands.specs.Answers.{AnswerData, line_answer}
use Rattle.commands.specs.declared.line.Line.TheVariants as lines

-- Its bytes, lowest address first, and a line that says how many they are.
abbrev pub cartridge_answer : MovieData → AnswerData
cartridge_answer m = record (line_answer (lines.Cartridge (length (bytes_of m.cartridge)))) { file = bytes_of m.cartridge }
