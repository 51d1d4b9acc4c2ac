-- The rule of the desk's table. Word 0 is the count, word 1 the least number. This project's own.
use Rattle.std.specs.Prelude.{◌≡◌, ℕ, length, slice_index}
use Rattle.atomic_table.specs.Table.{State}
use Rattle.segment_desk.specs.declared.part.Part.{Part}
use Rattle.segment_desk.specs.Desk.{DeskState, desk_at, Reached}

-- The table as plain data: it has no slots, and the view of each seat is a part.
abbrev pub TableState : Type 0
TableState = State (Unit {0}) Part

-- The desk that a table shows.
abbrev pub desk_of : TableState → DeskState
desk_of s = desk_at (slice_index s.words 0) (slice_index s.words 1) s.views

-- The rule: the table shows a state of the desk that events reach.
abbrev pub IsRuled : ℕ → ℕ → TableState → Type 0
IsRuled n w s = (length s.words ≡ 2) × Reached n w (desk_of s)
