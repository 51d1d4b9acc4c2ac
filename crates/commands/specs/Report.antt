-- A report on a movie for whoever judges it: its verdict, and then facts. This project's own.
use Rattle.std.specs.Prelude.{◌≡◌, ◌⊎◌, ℕ, List, [], ◌++◌, Option, Some, false, if◌then◌else◌, length}
use Rattle.cart_board.specs.Board.{Row}
use Rattle.movie_machine.specs.Carts.{board_of}
use Rattle.movie_file.specs.Format.{is_length}
use Rattle.movie_file.specs.Movie.{MovieData}
use Rattle.movie_report.specs.Expectations.{agreement_of, disagrees}
use Rattle.movie_report.specs.Facts.{IsReport}
use Rattle.movie_report.specs.declared.expectations.Agreement.{Agreement}
use Rattle.replay_plan.specs.declared.expectations.Expectations.{Expectations}
use Rattle.replay_plan.specs.declared.notation.Notation.{Notation}
use Rattle.replay_plan.specs.declared.notation.Notation.TheVariants.{Lines, Json}
use Rattle.replay_segments.specs.Verdicts.{HasVerdict}
use Rattle.replay_segments.specs.declared.verdict.Verdict.{Verdict}
use Rattle.commands.specs.Answers.{AnswerData, text_answer}
use Rattle.commands.specs.Lines.{line_bytes, status_of}
use Rattle.commands.specs.Refusals.{RefusesRom}
use Rattle.commands.specs.Verify.{verdict_line}
use Rattle.commands.specs.declared.remark.WhichInput.TheVariants.{Second}
use Rattle.commands.specs.declared.status.Status.{Status}
use Rattle.commands.specs.declared.status.Status.TheVariants.{Done, Unexpected}

-- The line of a verdict stands before lines of facts. An object of facts names the verdict itself.
abbrev pub line_in : Notation → List ℕ → List ℕ
line_in Lines line = line
line_in Json line = []

-- The status of a movie that is genuine is another if it isn't what is expected. Of any other the verdict says more.
abbrev pub status_with : Agreement → Status → Status
status_with agreement Done = if disagrees agreement then Unexpected else Done
status_with agreement other = other

-- The verdict and the facts of the movie that these bytes are, of which a cartridge, if there is one, and the rest are expected, by
-- a program of this name.
abbrev pub ReportsMovie : Notation → List ℕ → Option (List ℕ) → Expectations → List ℕ → MovieData → AnswerData → Type 0
ReportsMovie notation program rom expectations bytes m answer =
    (verdict : Verdict) × (facts : List ℕ) × HasVerdict m verdict × IsReport notation program bytes m verdict rom (agreement_of m rom expectations) facts
    × (answer ≡ text_answer (status_with (agreement_of m rom expectations) (status_of (verdict_line m verdict)))
    (line_in notation (line_bytes (verdict_line m verdict)) ++ facts))

-- A ROM whose length no cartridge has, on a board or on none.
abbrev pub IsNoCartridge : Option Row → Option (List ℕ) → List ℕ → Type 0
IsNoCartridge board rom bytes = (rom ≡ Some bytes) × (is_length board (length bytes) ≡ false)

-- The same where a ROM was read, which may be no cartridge. Then it is refused, and nothing is said of the movie.
abbrev pub Reports : Notation → List ℕ → Option (List ℕ) → Expectations → List ℕ → MovieData → AnswerData → Type 0
Reports notation program rom expectations bytes m answer =
    (((other : List ℕ) → IsNoCartridge (board_of m.cartridge) rom other → ⊥) × ReportsMovie notation program rom expectations bytes m answer)
    ⊎ ((other : List ℕ) × IsNoCartridge (board_of m.cartridge) rom other × RefusesRom Second notation program (board_of m.cartridge) other answer)
