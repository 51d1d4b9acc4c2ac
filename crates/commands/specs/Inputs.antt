-- What is written of the inputs of a movie, which is not replayed. This project's own.
use Rattle.std.specs.Prelude.{◌≡◌, ℕ, Bool, true, false, List}
use Rattle.std.specs.NonZero.{non_zero_u32_get}
use Rattle.command_line.specs.declared.inputs.Listing.{Listing}
use Rattle.vcs_machine.specs.Inputs.{InputData}
use Rattle.input_text.specs.Stretches.{IsNumbered, IsPrinted}
use Rattle.movie_file.specs.Movie.{MovieData}
use Rattle.commands.specs.Answers.{AnswerData, text_answer}
use Rattle.commands.specs.AskedFrames.{inputs_asked}
use Rattle.commands.specs.Remarks.{no_frame}
use Rattle.commands.specs.declared.status.Status.TheVariants.{Done}

-- The text of these inputs, of which the first is that of this frame: with the numbers of frames, or
-- as `make` reads it.
abbrev pub IsListing : Bool → ℕ → List InputData → List ℕ → Type 0
IsListing true first inputs text = IsNumbered first inputs text
IsListing false first inputs text = IsPrinted inputs text

-- That of the frames that are asked for. If there is none, how many there are is said.
abbrev pub Lists : MovieData → Listing → AnswerData → Type 0
Lists m listing answer =
    (text : List ℕ) × IsListing listing.numbers (non_zero_u32_get listing.first) (inputs_asked m (non_zero_u32_get listing.first) listing.count) text
    × (answer ≡ record (text_answer Done text) { remark = no_frame m (non_zero_u32_get listing.first) })
