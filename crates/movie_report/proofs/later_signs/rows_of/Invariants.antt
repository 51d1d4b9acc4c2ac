use Rattle.std.proofs.Common.{◌≡◌, ℕ, All, List, length}
use Rattle.movie_file.specs.Movie.{MovieData}
use Rattle.movie_report.specs.Private.FoundSigns.{IsRow}
use Rattle.movie_report.proofs.later_signs.rows_of.Given as goal

abbrev pub invariant-loop : goal.invariant-loop
invariant-loop l =
    (length l.rows.items ≡ l.counter)
    × ((m : MovieData) (cuts : List ℕ) (from : ℕ) → All (λ row. IsRow m cuts from l.count row.items) l.rows.items)
