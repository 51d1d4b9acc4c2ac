-- Runs of pixels in a row of a picture. This project's own.
use Rattle.std.specs.Prelude.{ℕ, zero, suc, ◌+◌, List, slice_set}

-- A row after k of its pixels from x on got one colour.
abbrev pub with_pixels : List ℕ → ℕ → ℕ → ℕ → List ℕ
with_pixels row x zero colour = row
with_pixels row x (suc k) colour = with_pixels (slice_set row x colour) (x + 1) k colour
