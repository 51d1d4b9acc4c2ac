-- What `info` says about a movie, without a replay. This project's own.
use Rattle.std.specs.Prelude.{ℕ, List, [], ◌∷◌, ◌++◌, codes, length, Option, Some, None}
use Rattle.std.specs.Fmt.{decimal}
use Rattle.cart_board.specs.Board.{Row}
use Rattle.movie_machine.specs.Carts.{board_of, bytes_of}
use Rattle.movie_file.specs.Movie.{MovieData}
use Rattle.replay_plan.specs.declared.notation.Notation.{Notation}
use Rattle.replay_plan.specs.declared.notation.Notation.TheVariants.{Lines, Json}
use Rattle.commands.specs.Answers.{AnswerData, text_answer}
use Rattle.commands.specs.Lines.{contents_text}
use Rattle.commands.specs.declared.status.Status.TheVariants.{Done}

-- The board of its cartridge, if that is on one, in this notation.
abbrev pub board_text : Notation → Option Row → List ℕ
board_text notation None = []
board_text Lines (Some row) = codes "board " ++ (row.name ++ codes ", ")
board_text Json (Some row) = codes ",\"board\":\"" ++ (row.name ++ codes "\"")

-- Its version, the board and the length of its cartridge, and how many frames and checkpoints it has, as
-- an object of JSON,
abbrev pub object_text : MovieData → List ℕ
object_text m =
    codes "{\"version\":" ++ (decimal m.version ++ (board_text Json (board_of m.cartridge) ++ (codes ",\"cartridge\":" ++ (decimal (length (bytes_of m.cartridge)) ++ (codes ",\"frames\":" ++ (decimal (length m.inputs)
    ++ (codes ",\"checkpoints\":" ++ (decimal (length m.checkpoints) ++ (codes "}" ++ 10 ∷ [])))))))))

-- or as a line.
abbrev pub movie_line : MovieData → List ℕ
movie_line m =
    codes "movie: version " ++ (decimal m.version ++ (codes ", " ++ (board_text Lines (board_of m.cartridge)
    ++ (contents_text (length (bytes_of m.cartridge)) (length m.inputs) (length m.checkpoints) ++ 10 ∷ []))))

abbrev pub information_in : Notation → MovieData → AnswerData
information_in Lines m = text_answer Done (movie_line m)
information_in Json m = text_answer Done (object_text m)
