-- A run from power-on and the checkpoints that are made of it, and why it is no movie. This project's
-- own.
use Rattle.std.specs.Prelude.{◌≡◌, ℕ, ◌+◌, ◌<◌, List, Bool, true, false, IsTrue, Option, Some, None, length, take}
use Rattle.std.specs.List.{All}
use Rattle.vcs_machine.specs.Inputs.{InputData, is_input}
use Rattle.movie_machine.specs.States.{state_at_power_on}
use Rattle.movie_machine.specs.declared.cart.Cart.{Cart}
use Rattle.movie_machine.specs.declared.state.State.{State}
use Rattle.vcs_machine.specs.declared.fault.FaultKind.{FaultKind}
use Rattle.movie_file.specs.ClaimedStates.{Claims}
use Rattle.movie_file.specs.Judgement.{AllSound, FaultsAt, IsGenuine}
use Rattle.movie_file.specs.Making.{IsFirstFault, bare, version_made}
use Rattle.movie_file.specs.Movie.{MovieData}
use Rattle.movie_file.specs.Run.{run}
use Rattle.movie_file.specs.declared.checkpoint.Checkpoint.{Checkpoint}
use Rattle.movie_file.specs.declared.error.MakeError.{MakeError}
use Rattle.movie_file.specs.declared.error.MakeError.TheVariants.{Fault, BadCounts}
use Rattle.refused.specs.declared.Refused.{Refused}
use Rattle.refused.specs.declared.Refused.TheVariants.{NoMemory, Of}
use Rattle.movie_hints.specs.declared.hint.Hint.{Hint}
use Rattle.replay_plan.specs.declared.keep.Keep.{Keep}
use Rattle.replay_segments.specs.Verdicts.{IsVerdict}
use Rattle.replay_segments.specs.declared.verdict.Verdict.TheVariants as verdicts
use Rattle.run_cursor.specs.declared.cursor.RunFault.{RunFault}
use Rattle.commands.specs.Make.{IsMadeMovie, IsMadeToTheFault, do_claims_fit}
use Rattle.commands.specs.Remarks.{known_if}
use Rattle.commands.specs.declared.line.Line.{Line}
use Rattle.commands.specs.declared.line.Line.TheVariants as lines
use Rattle.commands.specs.declared.remark.Remark.{Remark}
use Rattle.commands.specs.declared.remark.WhichInput.TheVariants.{Second}

-- So many frames ended, the last one in this state, and these are the checkpoints after every so many.
pub record HasRun (cartridge : Cart) (inputs : List InputData) (every frames : ℕ) (checkpoints : List Checkpoint) (state : State) : Type 0 where
  pub sound : AllSound (bare cartridge inputs) (state_at_power_on cartridge) 0 frames
  pub ran : run (bare cartridge inputs) (state_at_power_on cartridge) 0 frames ≡ Some state
  pub claims : Claims (bare cartridge inputs) 0 every frames checkpoints
  pub inputs_are : All (λ i. IsTrue (is_input i)) (take frames inputs)

-- Each frame before this one ended, it faults, and these are the checkpoints after every so many of those before.
pub record HasFault (cartridge : Cart) (inputs : List InputData) (every frame : ℕ) (kind : FaultKind) (checkpoints : List Checkpoint) : Type 0 where
  pub before : ℕ
  pub frame_is : frame ≡ before + 1
  pub within : before < length inputs
  pub sound : AllSound (bare cartridge inputs) (state_at_power_on cartridge) 0 before
  pub fault : FaultsAt (bare cartridge inputs) (state_at_power_on cartridge) 0 before kind
  pub claims : Claims (bare cartridge inputs) 0 every before checkpoints
  pub inputs_are : All (λ i. IsTrue (is_input i)) (take frame inputs)

-- The movie of these parts with the first so many inputs.
abbrev pub movie_up_to : Cart → State → List InputData → List Checkpoint → ℕ → MovieData
movie_up_to cartridge start inputs checkpoints frame =
    record { version = version_made cartridge frame; cartridge = cartridge; start = start; inputs = take frame inputs; checkpoints = checkpoints }

-- The movie of a run that ended, or the one to its fault, if that is asked for.
abbrev pub IsMadeRun : Cart → List InputData → ℕ → Bool → Bool → MovieData → Option RunFault → Type 0
IsMadeRun cartridge inputs every to_the_end to_the_fault m None = IsMadeMovie cartridge inputs every to_the_end m × IsGenuine m
IsMadeRun cartridge inputs every to_the_end to_the_fault m (Some fault) =
    (to_the_fault ≡ true) × IsFirstFault cartridge inputs fault.frame fault.kind × IsMadeToTheFault cartridge inputs every fault.frame m
    × ((keep : Keep) → IsVerdict m keep (verdicts.Fault fault.frame fault.kind))

-- What is said of it.
abbrev pub line_of : MovieData → Option RunFault → Line
line_of m None = lines.Made (length m.inputs) (length m.checkpoints)
line_of m (Some fault) = lines.Fault fault.frame fault.kind

-- How the inputs are stored is said of a movie whose run ended.
abbrev pub remark_of : Option Hint → Option RunFault → Option Remark
remark_of stored None = known_if Second stored
remark_of stored (Some fault) = None

-- The counts are looked at first.
abbrev pub Explains : Cart → List InputData → ℕ → Bool → Bool → Refused MakeError → Type 0
Explains cartridge inputs every to_the_end to_the_fault (Of (Fault frame kind)) =
    IsTrue (do_claims_fit (length inputs) every to_the_end) × IsFirstFault cartridge inputs frame kind × (to_the_fault ≡ false)
Explains cartridge inputs every to_the_end to_the_fault (Of BadCounts) = ¬ IsTrue (do_claims_fit (length inputs) every to_the_end)
Explains cartridge inputs every to_the_end to_the_fault NoMemory = Unit {0}
