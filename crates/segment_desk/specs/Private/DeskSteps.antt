-- What each step on the desk's table tells, and what a split makes of a ticket. This project's own.
use Rattle.std.specs.Prelude.{◌≡◌, ℕ, ◌-◌, ◌<◌, ◌≤◌, []}
use Rattle.atomic_table.specs.Table.{Me, Step}
use Rattle.segment_desk.specs.declared.part.Part.{Part}
use Rattle.segment_desk.specs.Desk.{times, fresh_part, draw_at, look_at, report_at, StandsIn}
use Rattle.segment_desk.specs.Kept.{IsKnown}
use Rattle.segment_desk.specs.Views.{IsBelowSeen}

-- A seat: its part, and the slots that it holds.
abbrev pub Seat : Type 0
Seat = Me (Unit {0}) Part

-- The step, the seat before it, the number that it found, and the seat after it.
abbrev pub Play : Type 1
Play = Step (Unit {0}) → Seat → ℕ → Seat → Type 0

-- The seat has the part v, which is known, and no slot.
abbrev pub HasPart : Seat → Part → Type 0
HasPart seat v = (seat.1 ≡ []) × (seat.0 ≡ v) × IsKnown v

-- A draw, which found the count k: it is above all numbers that this ticket has drawn.
abbrev pub Drew : Play
Drew step before k after =
    HasPart after (draw_at k before.0) × ((j : ℕ) → 0 < times j before.0.drawn → j < k) × StandsIn (λ s. s.count ≡ k) before.0

-- A look, which found the least number x.
abbrev pub Looked : Play
Looked step before x after =
    HasPart after (look_at x before.0) × (x ≤ before.0.segments) × IsBelowSeen x before.0 × StandsIn (λ s. s.least ≡ x) before.0

-- A report of the step's operand, which found the least number x.
abbrev pub Reported : Play
Reported step before x after =
    HasPart after (report_at x step.first before.0) × (x ≤ before.0.segments) × IsBelowSeen x before.0 × StandsIn (λ s. s.least ≡ x) before.0

-- A load that changes no part.
abbrev pub Settled : Play
Settled step before x after = HasPart after before.0

-- A ticket that gave one of its shares to a fresh ticket, and that fresh ticket.
abbrev pub staying_part : Part → Part
staying_part v = record v { share = v.share - 1 }

abbrev pub split_of : Part → Part
split_of v = fresh_part v.segments v.workers 1
