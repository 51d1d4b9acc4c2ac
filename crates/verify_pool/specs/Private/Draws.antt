-- How many draws a ticket has left. This project's own.
use Rattle.std.specs.Prelude.{ℕ, ◌+◌, ◌-◌, Option, Some, None}
use Rattle.segment_desk.specs.declared.part.Part.{Part}

-- How many draws a ticket has at most, the one that finds no number included. It falls at each
-- number drawn.
abbrev pub to_draw : ℕ → Option ℕ → ℕ
to_draw n None = n + 1
to_draw n (Some k) = n - k

abbrev pub left_of : Part → ℕ
left_of v = to_draw v.segments v.last
