-- Where a cursor stands on its way to a claim. This project's own.
use Rattle.std.specs.Prelude.{ℕ, ◌≤◌}
use Rattle.movie_file.specs.Movie.{MovieData}
use Rattle.run_cursor.specs.Cursor.{CursorData, IsAt}

-- After this frame of a movie's run, or before the one that faults on the way to it.
abbrev pub StandsBefore : MovieData → ℕ → CursorData → Type 0
StandsBefore m frame c = (k : ℕ) × (k ≤ frame) × IsAt m k c
