-- What the making of a movie writes for the bytes of a ROM and of inputs, and its status. This
-- project's own.
use Rattle.std.specs.Prelude.{◌≡◌, ◌⊎◌, ℕ, ◌+◌, ◌-◌, ◌*◌, ◌/◌, ◌%◌, ◌==◌, ◌&&◌, ◌++◌, Bool, true, false, not, nat_le, List, [], ◌∷◌, length}
use Rattle.std.specs.Prelude.{if◌then◌else◌, Option, Some, None, IfSome, Result, Ok, Err, IsTrue, slice_get, take}
use Rattle.std.specs.NonZero.{non_zero_u32_get}
use Rattle.std.specs.Option.{option_or}
use Rattle.std.specs.Result.{result_map_both}
use Rattle.std.specs.Io.KnownBytes.{Keeps}
use Rattle.cart_board.specs.Board.{Row}
use Rattle.input_text.specs.Texts.{inputs_in}
use Rattle.vcs_machine.specs.Inputs.{InputData}
use Rattle.movie_machine.specs.Carts.{cart_on}
use Rattle.movie_machine.specs.States.{state_at_power_on}
use Rattle.movie_machine.specs.declared.cart.Cart.{Cart}
use Rattle.movie_machine.specs.declared.state.State.{State}
use Rattle.vcs_machine.specs.declared.fault.FaultKind.{FaultKind}
use Rattle.movie_file.specs.Format.{is_length, most_checkpoints}
use Rattle.movie_file.specs.InputLists.{all_inputs_at}
use Rattle.movie_file.specs.Judgement.{IsGenuine}
use Rattle.movie_file.specs.Making.{IsMadeOf, IsFirstFault, counts_fit, version_made}
use Rattle.movie_file.specs.Movie.{MovieData}
use Rattle.movie_file.specs.Run.{run}
use Rattle.movie_file.specs.Spelling.{spelling}
use Rattle.movie_file.specs.declared.checkpoint.Checkpoint.{Checkpoint}
use Rattle.movie_file.specs.declared.error.MovieError.TheVariants.{BadCounts}
use Rattle.command_line.specs.Program.{program_name}
use Rattle.command_line.specs.declared.make.Making.{Making}
use Rattle.movie_hints.specs.Counts.{IsCountsHint, checkpoints_of}
use Rattle.movie_hints.specs.Hints.{TellsStorage}
use Rattle.movie_hints.specs.declared.hint.Hint.{Hint}
use Rattle.replay_plan.specs.declared.input_form.InputForm.{InputForm}
use Rattle.replay_plan.specs.declared.keep.Keep.{Keep}
use Rattle.replay_plan.specs.declared.notation.Notation.TheVariants.{Lines}
use Rattle.replay_plan.specs.declared.input_form.InputForm.TheVariants.{Bytes, Text}
use Rattle.replay_segments.specs.Verdicts.{IsVerdict}
use Rattle.replay_segments.specs.declared.verdict.Verdict.TheVariants.{Fault}
use Rattle.commands.specs.Answers.{AnswerData, line_answer, movie_answer}
use Rattle.commands.specs.Refusals.{RefusesRom}
use Rattle.commands.specs.Remarks.{BlamesInputs, known_if}
use Rattle.commands.specs.Streams.{ReadsAll}
use Rattle.commands.specs.declared.line.Line.{Line}
use Rattle.commands.specs.declared.line.Line.TheVariants as lines
use Rattle.commands.specs.declared.remark.WhichInput.TheVariants.{First, Second}

-- Frames of which a movie can be made, with a checkpoint after every so many, and to the end after the
-- last one too.
abbrev pub do_claims_fit : ℕ → ℕ → Bool → Bool
do_claims_fit frames every to_the_end =
    counts_fit frames every && nat_le (checkpoints_of frames every to_the_end) most_checkpoints

-- To the end a checkpoint stands after the last of so many frames where none does after every so many.
abbrev pub is_last_claimed : ℕ → ℕ → Bool → Bool
is_last_claimed frames every to_the_end = to_the_end && not (frames % every == 0)

-- It claims this state.
abbrev pub last_claim : ℕ → ℕ → Bool → State → List Checkpoint
last_claim frames every to_the_end state =
    if is_last_claimed frames every to_the_end then record { frame = frames; state = state } ∷ [] else []

-- The movie of a run from power-on with a checkpoint after every so many frames, and to the end with
-- the state after the last one.
pub record IsMadeMovie (cartridge : Cart) (inputs : List InputData) (every : ℕ) (to_the_end : Bool) (m : MovieData) : Type 0 where
  pub claims : List Checkpoint
  pub last : State
  pub made : IsMadeOf cartridge inputs every (record m { checkpoints = claims })
  pub ran : run m m.start 0 (length inputs) ≡ Some last
  pub checkpoints_are : m.checkpoints ≡ claims ++ last_claim (length inputs) every to_the_end last

-- The movie of a run from power-on of which this frame is the first that faults: it ends with that
-- frame, and has a checkpoint after every so many of the frames before.
pub record IsMadeToTheFault (cartridge : Cart) (inputs : List InputData) (every frame : ℕ) (m : MovieData) : Type 0 where
  pub version : m.version ≡ version_made cartridge frame
  pub cartridge_is : m.cartridge ≡ cartridge
  pub start : m.start ≡ state_at_power_on cartridge
  pub inputs_are : m.inputs ≡ take frame inputs
  pub count : length m.checkpoints ≡ (frame - 1) / every
  pub places : (j : ℕ) (c : Checkpoint) → slice_get m.checkpoints j ≡ Some c → c.frame ≡ every * (j + 1)
  pub states : (j : ℕ) (c : Checkpoint) → slice_get m.checkpoints j ≡ Some c → run m m.start 0 c.frame ≡ Some c.state

-- What is written of a run's first fault: its line, and where a movie to the fault is asked for that
-- movie, of which this fault is the verdict.
abbrev pub WritesFault : Cart → List InputData → ℕ → Bool → ℕ → FaultKind → AnswerData → Type 0
WritesFault cartridge inputs every false frame kind answer = answer ≡ line_answer (lines.Fault frame kind)
WritesFault cartridge inputs every true frame kind answer =
    (m : MovieData) × IsMadeToTheFault cartridge inputs every frame m × ((keep : Keep) → IsVerdict m keep (Fault frame kind))
    × (answer ≡ record (line_answer (lines.Fault frame kind)) { file = spelling m })

-- How inputs are stored in this form that may be meant otherwise: a text alone.
abbrev pub IsStoredAs : InputForm → List ℕ → Option Hint → Type 0
IsStoredAs Bytes input stored = stored ≡ None
IsStoredAs Text input stored = IfSome stored (TellsStorage input)

-- What is written of a cartridge and inputs that are stored so: the movie of their run, which is genuine,
-- or the run's first fault; or that their counts are refused, with what is wrong with them.
abbrev pub MakesOf : Cart → List InputData → Option Hint → ℕ → Bool → Bool → AnswerData → Type 0
MakesOf cartridge inputs stored every to_the_end to_the_fault answer =
    (IsTrue (do_claims_fit (length inputs) every to_the_end)
    × (((m : MovieData) × IsMadeMovie cartridge inputs every to_the_end m × IsGenuine m
    × (answer ≡ record (movie_answer lines.Made m) { remark = known_if Second stored }))
    ⊎ ((frame : ℕ) × (kind : FaultKind) × IsFirstFault cartridge inputs frame kind × WritesFault cartridge inputs every to_the_fault frame kind answer)))
    ⊎ ((¬ IsTrue (do_claims_fit (length inputs) every to_the_end)) × (hint : Option Hint) × IsCountsHint (length inputs) every to_the_end hint
    × (answer ≡ record (line_answer (lines.Refused BadCounts)) { remark = known_if Second (option_or stored hint) }))

-- The inputs that some bytes are in this form, or the line of why they are none.
abbrev pub inputs_by : InputForm → List ℕ → Result (List InputData) Line
inputs_by Bytes input = result_map_both (λ inputs. inputs) lines.Refused (all_inputs_at input)
inputs_by Text input = result_map_both (λ inputs. inputs) lines.BadLine (inputs_in input)

-- That inputs are refused by this line, and the remark has their bytes.
abbrev pub RefusesInputs : List ℕ → Line → AnswerData → Type 0
RefusesInputs input line answer = (answer ≡ record (line_answer line) { remark = answer.remark }) × BlamesInputs input line answer.remark

-- What is written of a cartridge and what reading the inputs found.
abbrev pub MakesFound : Cart → InputForm → List ℕ → Result (List InputData) Line → ℕ → Bool → Bool → AnswerData → Type 0
MakesFound cartridge form input (Ok inputs) every to_the_end to_the_fault answer =
    (stored : Option Hint) × IsStoredAs form input stored × MakesOf cartridge inputs stored every to_the_end to_the_fault answer
MakesFound cartridge form input (Err line) every to_the_end to_the_fault answer = RefusesInputs input line answer

-- Of a cartridge and the bytes of inputs.
abbrev pub MakesFrom : Cart → InputForm → List ℕ → ℕ → Bool → Bool → AnswerData → Type 0
MakesFrom cartridge form input every to_the_end to_the_fault answer =
    MakesFound cartridge form input (inputs_by form input) every to_the_end to_the_fault answer

-- What is written of the bytes of a ROM, on a board or on none, and what is read of the inputs: if no such
-- cartridge has the ROM's length, nothing.
abbrev pub Makes : InputForm → Making → Option Row → List ℕ → Option (List ℕ) → Option (List ℕ) → AnswerData → Type 0
Makes form making board rom old new answer =
    (IsTrue (is_length board (length rom))
    × ((input : List ℕ) × ReadsAll old new input
    × MakesFrom (cart_on board rom) form input (non_zero_u32_get making.every) making.to_the_end making.to_the_fault answer))
    ⊎ ((¬ IsTrue (is_length board (length rom))) × Keeps old new × RefusesRom First Lines program_name board rom answer)
