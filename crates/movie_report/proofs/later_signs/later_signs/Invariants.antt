use Rattle.std.proofs.Common.{◌≡◌, ℕ, ◌+◌, length, slice_get, IfSome}
use Rattle.movie_report.specs.Segments.{HasSign}
use Rattle.movie_report.proofs.later_signs.later_signs.Given as goal

abbrev pub invariant-loop-place : goal.invariant-loop-place
invariant-loop-place g l =
    (length l.signs.items ≡ l.place) × ((i : ℕ) → IfSome (slice_get l.signs.items i) (HasSign l.movie l.cuts (l.from + i)))
