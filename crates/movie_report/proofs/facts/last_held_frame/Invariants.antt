use Rattle.std.proofs.Common.{◌≡◌, drop}
use Rattle.movie_report.specs.Facts.{last_held}
use Rattle.movie_report.proofs.facts.last_held_frame.Given as goal

abbrev pub invariant-loop-before : goal.invariant-loop-before
invariant-loop-before l = last_held l.last l.before (drop l.before l.movie.inputs) ≡ last_held 0 0 l.movie.inputs
