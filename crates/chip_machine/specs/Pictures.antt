-- How many rows the picture of a frame has. This project's own.
use Rattle.std.specs.Prelude.{ℕ, ◌+◌, min, nat_lt, if◌then◌else◌}
use Rattle.tia_chip.specs.declared.state.TiaState.{TiaState}

-- The lines that a frame has begun as it ends. Lines that RSYNC made shorter count.
abbrev pub lines_begun : TiaState → ℕ
lines_begun t = t.line + (if nat_lt 0 t.clock then 1 else 0)

-- The most rows that are drawn.
abbrev pub most_rows : ℕ
most_rows = 322

abbrev pub rows_of : TiaState → ℕ
rows_of t = min (lines_begun t) most_rows
