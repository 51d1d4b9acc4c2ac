-- What is written of the lines of a run, in part: whatever comes of the run, there is an answer.
use Rattle.std.proofs.Common.{ℕ, List, Option, refl, inl, inr}
use Rattle.movie_file.specs.Movie.{MovieData, IsMovie}
use Rattle.picture_file.specs.Prefixes.{AppendsPrefix}
use Rattle.picture_file.proofs.BytesWritten.{prefix_longer}
use Rattle.replay_plan.specs.declared.notation.Notation.{Notation}
use Rattle.replay_plan.specs.declared.watches.Details.{Details}
use Rattle.commands.specs.declared.status.Status.{Status}
use Rattle.commands.specs.declared.status.Status.TheVariants as statuses
use Rattle.commands.specs.Frames.{Describes, lines_asked}
use Rattle.commands.proofs.WrittenFrames.{asked_ends_or_faults}

pub lines_in_part : (m : MovieData) → IsMovie m → (notation : Notation) (details : Details) (first count : ℕ) (a b : Option (List ℕ))
    → AppendsPrefix a b (lines_asked m notation details first count)
    → (status : Status) × (text : List ℕ) × Describes m notation details first count status text × AppendsPrefix a b text
lines_in_part m movie notation details first count a b part = elim (asked_ends_or_faults m movie first count) [
  | inl ends ↦ (statuses.Done, lines_asked m notation details first count, inl (ends, refl, refl), part)
  | inr faults ↦ (statuses.Fault, _, inr (faults.0, faults.1, faults.2, refl, refl), prefix_longer a b (lines_asked m notation details first count) _ part)
]
