-- Which clocks of a line are in the blank. Stella Programmer's Guide: a line has 228 colour clocks,
-- 68 of blank and 160 of picture. Andrew Towers' notes: HMOVE makes the blank 8 clocks longer.
-- Measured in Stella 6.7: RSYNC leaves three clocks of a line, and they are in the blank exactly if
-- the clock at the write would have been.
use Rattle.std.specs.Prelude.{ℕ, Bool, ◌||◌, nat_lt, if◌then◌else◌}
use Rattle.tia_chip.specs.declared.state.TiaState.{TiaState}

-- Whether the next clock is in the blank. `longer` says so of the clocks from 68 on: it is never set
-- from 76 to 224.
abbrev pub is_in_blank : TiaState → Bool
is_in_blank t = nat_lt t.clock 68 || t.longer

-- How many steps late a strobe takes effect: none in the picture, two in the blank, and one in the
-- blank from clock 73 on. Measured in Stella 6.7.
abbrev pub lateness_of : TiaState → ℕ
lateness_of t = if is_in_blank t then (if nat_lt t.clock 73 then 2 else 1) else 0
