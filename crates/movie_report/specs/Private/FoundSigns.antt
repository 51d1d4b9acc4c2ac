-- Signs that a worker has found of segments. This project's own.
use Rattle.std.specs.Prelude.{◌≡◌, ℕ, ◌+◌, List, Option, IfSome, length, slice_get}
use Rattle.movie_file.specs.Movie.{MovieData}
use Rattle.movie_report.specs.Segments.{HasSign}
use Rattle.movie_report.specs.declared.segments.Sign.{Sign}

-- Each that stands at a place is the sign of the segment so many after this one.
abbrev pub AreFound : MovieData → List ℕ → ℕ → List (Option Sign) → Type 0
AreFound m cuts from found = (i : ℕ) → IfSome (slice_get found i) (λ sign. IfSome sign (HasSign m cuts (from + i)))

-- The same of so many segments.
abbrev pub IsRow : MovieData → List ℕ → ℕ → ℕ → List (Option Sign) → Type 0
IsRow m cuts from count found = (length found ≡ count) × AreFound m cuts from found
