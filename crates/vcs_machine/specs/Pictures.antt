-- The picture of a frame: the colour last put at each place, else 0. This project's own.
use Rattle.std.specs.Prelude.{ℕ, ◌+◌, ◌/◌, ◌==◌, ◌&&◌, nat_lt, if◌then◌else◌, List, [], ◌∷◌, length}
use Rattle.std.specs.Prelude.{map, replicate, slice_set, slice_index_or}
use Rattle.std.specs.List.{range_with_len}
use Rattle.tia_core.specs.Clock.{Pixel}

-- Rows from the top, each of 160 colour bytes from the left.
abbrev pub Rows : Type 0
Rows = List (List ℕ)

-- The colour of a place after some pixels, from the one before them: that of the last pixel there.
abbrev pub colour_after : ℕ → List Pixel → ℕ → ℕ → ℕ
colour_after colour [] line x = colour
colour_after colour (p ∷ ps) line x = colour_after (if (p.line == line) && (p.x == x) then p.colour else colour) ps line x

-- The picture with so many rows of some pixels.
unfoldable pub picture_of : ℕ → List Pixel → Rows
picture_of rows pixels =
    map (λ line. map (λ x. colour_after 0 pixels line x) (range_with_len 0 160)) (range_with_len 0 rows)

-- The rows of a frame that began at this cycle of its scanline and took so many cycles.
abbrev pub rows_of : ℕ → ℕ → ℕ
rows_of line_cycle cycles = (line_cycle + cycles + 75) / 76

-- The most rows of a frame's picture. Its last instruction ends at most 75 + 24,319 + 7 cycles
-- after its first scanline began: 321 lines and 5 cycles. A wait after it ends where the next line
-- begins, after at most 322 lines.
abbrev pub most_rows : ℕ
most_rows = 322

-- Rows after one pixel. One outside of them changes nothing.
abbrev pub with_pixel : Rows → ℕ → ℕ → ℕ → Rows
with_pixel rows line x colour =
    if nat_lt line (length rows) && nat_lt x 160
    then slice_set rows line (slice_set (slice_index_or rows line []) x colour)
    else rows

-- So many rows of zeros.
abbrev pub blank : ℕ → Rows
blank n = replicate n (replicate 160 0)
