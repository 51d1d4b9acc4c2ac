-- Cutting a movie: a movie of its own of some of its frames. This project's own.
use Rattle.std.specs.Prelude.{◌≡◌, ◌⊎◌, ◌<◌, ◌≤◌, ℕ, ◌+◌, ◌-◌, ◌*◌, ◌/◌, length, false, IsTrue, Option, Some, slice_get}
use Rattle.vcs_machine.specs.declared.fault.FaultKind.{FaultKind}
use Rattle.movie_file.specs.Judgement.{IsGenuine}
use Rattle.movie_file.specs.Making.{counts_fit, version_made}
use Rattle.movie_file.specs.Movie.{MovieData, IsMovie}
use Rattle.movie_file.specs.Run.{run}
use Rattle.movie_file.specs.declared.checkpoint.Checkpoint.{Checkpoint}
use Rattle.movie_file.specs.declared.error.MovieError.TheVariants.{BadCounts}
use Rattle.movie_hints.specs.Counts.{IsCountsHint}
use Rattle.movie_hints.specs.declared.hint.Hint.{Hint}
use Rattle.movie_hints.specs.declared.hint.Hint.TheVariants as hints
use Rattle.commands.specs.Answers.{AnswerData, line_answer, movie_answer}
use Rattle.commands.specs.Remarks.{known_if}
use Rattle.run_cursor.specs.RunFaults.{FaultsWithin}
use Rattle.commands.specs.AskedFrames.{inputs_asked, frames_asked, Ends}
use Rattle.commands.specs.declared.line.Line.TheVariants as lines
use Rattle.commands.specs.declared.remark.WhichInput.TheVariants.{First}

-- The movie `c` of those frames of `m`. It starts in the state of the run before the first of them,
-- has their inputs, and claims the state of the run after every so many of them. Its version is the
-- one of a movie that is made of its cartridge and inputs.
pub record IsCutOf (m : MovieData) (first count every : ℕ) (c : MovieData) : Type 0 where
  pub version : c.version ≡ version_made c.cartridge (length c.inputs)
  pub cartridge_is : c.cartridge ≡ m.cartridge
  pub start : run m m.start 0 (first - 1) ≡ Some c.start
  pub inputs_are : c.inputs ≡ inputs_asked m first count
  pub ends : Ends m (first - 1 + length c.inputs)
  pub count_is : length c.checkpoints ≡ length c.inputs / every
  pub places : (j : ℕ) (k : Checkpoint) → slice_get c.checkpoints j ≡ Some k → k.frame ≡ every * (j + 1)
  pub states : (j : ℕ) (k : Checkpoint) → slice_get c.checkpoints j ≡ Some k → run m m.start 0 (first - 1 + k.frame) ≡ Some k.state

-- The checkpoints of a movie stand after every so many of its frames.
pub record ClaimsEvery (m : MovieData) (every : ℕ) : Type 0 where
  pub count_is : length m.checkpoints ≡ length m.inputs / every
  pub places : (j : ℕ) (k : Checkpoint) → slice_get m.checkpoints j ≡ Some k → k.frame ≡ every * (j + 1)

-- What keeps those frames from being cut: the movie has none of them, and how many it has; else what
-- keeps so many from being a movie.
abbrev pub IsCutHint : MovieData → (first count every : ℕ) → Option Hint → Type 0
IsCutHint m first count every hint =
    (length m.inputs < first → hint ≡ Some (hints.HasFrames (length m.inputs)))
    × (first ≤ length m.inputs → IsCountsHint (frames_asked m first count) every false hint)

-- What is written of a movie that is cut: the cut, which is genuine, or the first fault of a frame up
-- to its last; or that the counts are refused.
abbrev pub Cuts : MovieData → ℕ → ℕ → ℕ → AnswerData → Type 0
Cuts m first count every answer =
    (IsTrue (counts_fit (frames_asked m first count) every)
    × (((c : MovieData) × IsMovie c × IsCutOf m first count every c × IsGenuine c × (answer ≡ movie_answer lines.Cut c))
    ⊎ ((frame : ℕ) × (kind : FaultKind) × FaultsWithin m (first - 1 + frames_asked m first count) frame kind
    × (answer ≡ line_answer (lines.Fault frame kind)))))
    ⊎ ((¬ IsTrue (counts_fit (frames_asked m first count) every)) × (hint : Option Hint) × IsCutHint m first count every hint
    × (answer ≡ record (line_answer (lines.Refused BadCounts)) { remark = known_if First hint }))
