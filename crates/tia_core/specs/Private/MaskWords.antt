-- How a mask is kept: in five words of 32 bits, lowest first. This project's own.
use Rattle.std.specs.Prelude.{◌≡◌, ◌<◌, ◌+◌, ◌*◌, ℕ, ◌/◌, ◌%◌, Bool, List, map, slice_index_or}
use Rattle.std.specs.List.{range_with_len}
use Rattle.tia_core.specs.Bits.{has_bit}

-- the bit of pixel x
abbrev pub word_bit : List ℕ → ℕ → Bool
word_bit words x = has_bit (slice_index_or words (x / 32) 0) (x % 32)

-- the truth values of the pixels of a line
unfoldable pub pixels_in : List ℕ → List Bool
pixels_in words = map (word_bit words) (range_with_len 0 160)

-- the words go twice round the line: each has the bits of 64 pixels, from the 32 i-th pixel on
abbrev pub IsRound : List ℕ → Type 0
IsRound words = (i j : ℕ) → i < 10 → j < 64 → has_bit (slice_index_or words i 0) j ≡ word_bit words ((32 * i + j) % 160)
