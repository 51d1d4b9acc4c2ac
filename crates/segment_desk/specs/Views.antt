-- What contracts see of a desk and of a ticket. This project's own.
use Rattle.std.specs.Prelude.{◌≡◌, ℕ, ◌<◌, ◌≤◌, Some}
use Rattle.atomic_table.specs.Seated.{TableId}
use Rattle.segment_desk.specs.declared.part.Part.{Part}
use Rattle.segment_desk.specs.Desk.{times, fresh_part}

-- Which desk it is, how many numbers it gives out, and how many tickets it was made with.
pub record DeskView : Type 0 where
  pub id : TableId
  pub segments : ℕ
  pub workers : ℕ

-- The desk whose ticket it is, and its part of that desk's history.
pub record TicketView : Type 0 where
  pub desk : TableId
  pub part : Part

-- The ticket is the desk's own.
abbrev pub IsOf : DeskView → TicketView → Type 0
IsOf desk ticket = (ticket.desk ≡ desk.id) × (ticket.part.segments ≡ desk.segments) × (ticket.part.workers ≡ desk.workers)

-- A ticket that has done nothing, and stands for so many first tickets.
abbrev pub shared_ticket : DeskView → ℕ → TicketView
shared_ticket desk share = record { desk = desk.id; part = fresh_part desk.segments desk.workers share }

-- The ticket of one worker, as the desk is made.
abbrev pub first_ticket : DeskView → TicketView
first_ticket desk = shared_ticket desk 1

-- x is at most the number that the ticket has seen, and at most each that it reported.
abbrev pub IsBelowSeen : ℕ → Part → Type 0
IsBelowSeen x v = ((k : ℕ) → v.seen ≡ Some k → x ≤ k) × ((k : ℕ) → 0 < times k v.reported → x ≤ k)
