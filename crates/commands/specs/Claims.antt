-- What is written of a movie's claims, which is not replayed. This project's own.
use Rattle.movie_file.specs.Movie.{MovieData}
use Rattle.movie_report.specs.Claims.{claims_text}
use Rattle.replay_plan.specs.declared.notation.Notation.{Notation}
use Rattle.commands.specs.Answers.{AnswerData, text_answer}
use Rattle.commands.specs.declared.status.Status.TheVariants.{Done}

abbrev pub claims_in : Notation → MovieData → AnswerData
claims_in notation m = text_answer Done (claims_text notation m.cartridge 0 m.checkpoints)
