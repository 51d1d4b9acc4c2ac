-- When a number of a state by the chip's rules doesn't fit those beside it. Places are those of a record
-- of version 3 (docs/MOVIE_FORMAT.md), counted from 0. This project's own.
use Rattle.std.specs.Prelude.{ℕ, List, Bool, ◌+◌, ◌-◌, ◌/◌, ◌%◌, ◌==◌, ◌&&◌, ◌||◌, nat_le, nat_lt, not, slice_index}
use Rattle.tia_chip.specs.Player.{width_of}
use Rattle.movie_hints.specs.declared.fit.Fit.{Fit}
use Rattle.movie_hints.specs.declared.fit.Fit.TheVariants.{NoBit, NoChange, Change, NotMirrored, NoPlayfieldBit, NoPulses}
use Rattle.movie_hints.specs.declared.fit.Fit.TheVariants.{NotLonger, NoOwnSize, NotSeen}

-- The byte at another place of a record, of which the byte at the first place stands here in a file.
abbrev pub beside : List ℕ → ℕ → ℕ → ℕ → ℕ
beside bytes at place other = slice_index bytes (at + other - place)

-- The line cycle, from such a place.
abbrev pub cycle_beside : List ℕ → ℕ → ℕ → ℕ
cycle_beside bytes at place = beside bytes at place 199

-- The width of a player is that of its NUSIZ, whose change stands here: 0, 1, 2 are the widths 1, 2, 4.
abbrev pub has_width_of_nusiz : List ℕ → ℕ → Bool
has_width_of_nusiz bytes at = beside bytes at 187 185 == width_of (beside bytes at 187 146) / 2

-- A number that stands here must be 0, and isn't: the bit of a player whose copy isn't drawn yet,
abbrev pub is_unfit : List ℕ → ℕ → Fit → ℕ → Bool
is_unfit bytes at NoBit n = not (n == 0) && nat_lt (beside bytes at 183 181) 7
-- a player's change, whose width is that of NUSIZ, or, the other way round, one that is 0,
is_unfit bytes at NoChange n = not (n == 0) && has_width_of_nusiz bytes at
is_unfit bytes at Change n = (n == 0) && not (has_width_of_nusiz bytes at)
-- `mirrored` and the playfield's bit outside of their cycles,
is_unfit bytes at NotMirrored n =
    not (n == 0) && not (nat_le 50 (cycle_beside bytes at 192) && nat_le (cycle_beside bytes at 192) 74)
is_unfit bytes at NoPlayfieldBit n =
    not (n == 0) && (nat_lt (cycle_beside bytes at 193) 23 || (cycle_beside bytes at 193 % 4 == 0))
-- pulses, if nothing moves,
is_unfit bytes at NoPulses n = not (n == 0) && (beside bytes at 197 196 == 0)
-- a longer blank in cycles that have none,
is_unfit bytes at NotLonger n =
    not (n == 0)
    && (cycle_beside bytes at 200 == 0 || (nat_le 26 (cycle_beside bytes at 200) && nat_le (cycle_beside bytes at 200) 74))
-- the own size of a missile whose copy isn't drawn yet,
is_unfit bytes at NoOwnSize n = not (n == 0) && nat_lt (beside bytes at 201 189) 5
-- and what was seen, in the picture.
is_unfit bytes at NotSeen n =
    not (n == 0) && nat_le 23 (cycle_beside bytes at 205) && not (beside bytes at 205 200 == 1)
