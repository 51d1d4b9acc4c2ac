-- The desk: it gives out the numbers below n, each once, to w tickets, and keeps the least number
-- that was reported bad. Its state is a count, a least number and, for each ticket, its part of the
-- history. A state changes by events alone. This project's own.
use Rattle.std.specs.Prelude.{◌≡◌, ◌≢◌, ℕ, ◌+◌, ◌-◌, ◌^◌, ◌<◌, min, true, false}
use Rattle.std.specs.Prelude.{if◌then◌else◌, ◌||◌, ◌==◌, nat_lt, List, [], ◌∷◌, ◌++◌, count_by}
use Rattle.std.specs.Prelude.{slice_get, slice_set, Option, None, Some}
use Rattle.segment_desk.specs.declared.part.Part.{Part}

-- How many times k stands in a list.
abbrev pub times : ℕ → List ℕ → ℕ
times k xs = count_by (λ x. x == k) xs

-- A list with k in it, which is not put into it twice.
abbrev pub with_number : ℕ → List ℕ → List ℕ
with_number k xs = if nat_lt 0 (times k xs) then xs else xs ++ k ∷ []

-- The part of a ticket that has done nothing, and stands for so many first tickets.
abbrev pub fresh_part : ℕ → ℕ → ℕ → Part
fresh_part n w share = record {
  segments = n;
  workers = w;
  drawn = [];
  reported = [];
  passed_over = [];
  last = None;
  seen = None;
  ended = false;
  share = share;
}

-- What is left of a ticket that was handed in.
abbrev pub spent_part : Part
spent_part = fresh_part 0 0 0

-- What the events make of a part.

-- k was drawn: it is on the drawn list, and is the last.
abbrev pub with_drawn : ℕ → Part → Part
with_drawn k v = record v { drawn = v.drawn ++ k ∷ []; last = Some k }

-- A draw found no number left: the ticket has ended.
abbrev pub at_end : Part → Part
at_end v = record v { ended = true }

-- A draw where the count was k.
abbrev pub draw_at : ℕ → Part → Part
draw_at k v = if nat_lt k v.segments then with_drawn k v else at_end v

-- The numbers passed over, and the last drawn one with them if the least number x is below it.
abbrev pub with_passed : ℕ → Option ℕ → List ℕ → List ℕ
with_passed x None ks = ks
with_passed x (Some k) ks = if nat_lt x k then with_number k ks else ks

-- A look that found the least number x, which it sees.
abbrev pub look_at : ℕ → Part → Part
look_at x v = record v { passed_over = with_passed x v.last v.passed_over; seen = Some x }

-- A report of k where the least number was x: the smaller of both is seen.
abbrev pub report_at : ℕ → ℕ → Part → Part
report_at x k v = record v { reported = with_number k v.reported; seen = Some (min x k) }

-- The smaller of two numbers of which each may be none.
abbrev pub smaller_of : Option ℕ → Option ℕ → Option ℕ
smaller_of None y = y
smaller_of (Some x) None = Some x
smaller_of (Some x) (Some y) = Some (min x y)

-- A ticket that took another in: both their lists and shares, the smaller seen number, its own last
-- one, and ended if either had.
abbrev pub with_handed_in : Part → Part → Part
with_handed_in v u = record v {
  drawn = v.drawn ++ u.drawn;
  reported = v.reported ++ u.reported;
  passed_over = v.passed_over ++ u.passed_over;
  seen = smaller_of v.seen u.seen;
  ended = v.ended || u.ended;
  share = v.share + u.share;
}

-- The states, and the events between them.

pub record DeskState : Type 0 where
  pub count : ℕ
  pub least : ℕ
  pub parts : List Part

abbrev pub desk_at : ℕ → ℕ → List Part → DeskState
desk_at count least parts = record { count = count; least = least; parts = parts }

-- The part at j is v, and its ticket was not handed in.
abbrev pub IsTicket : List Part → ℕ → Part → Type 0
IsTicket parts j v = (slice_get parts j ≡ Some v) × (0 < v.share)

-- One event at a desk of n numbers and w tickets, where the count is c and the least number l.
pub data Event (n w : ℕ) : DeskState → DeskState → Type 0 where
  -- a ticket that has not ended draws
  draws : (c l : ℕ) (parts : List Part) (j : ℕ) (v : Part) → IsTicket parts j v → v.ended ≡ false
      → Event n w (desk_at c l parts) (desk_at (c + 1) l (slice_set parts j (draw_at c v)))
  -- a ticket looks
  looks : (c l : ℕ) (parts : List Part) (j : ℕ) (v : Part) → IsTicket parts j v
      → Event n w (desk_at c l parts) (desk_at c l (slice_set parts j (look_at l v)))
  -- a ticket reports the number that it drew last and has not passed over
  reports : (c l : ℕ) (parts : List Part) (j : ℕ) (v : Part) (k : ℕ) → IsTicket parts j v → v.last ≡ Some k → times k v.passed_over ≡ 0
      → Event n w (desk_at c l parts) (desk_at c (min l k) (slice_set parts j (report_at l k v)))
  -- A ticket with a share above 1 that has done nothing gives one share of it to a fresh ticket. It
  -- has done nothing at all: one that has ended with no number could be split and taken in again
  -- and again, and each part of it could draw once more.
  splits : (c l : ℕ) (parts : List Part) (j share : ℕ) → IsTicket parts j (fresh_part n w share) → 1 < share
      → Event n w (desk_at c l parts) (desk_at c l (slice_set parts j (fresh_part n w (share - 1)) ++ fresh_part n w 1 ∷ []))
  -- a ticket takes another in
  hands_in : (c l : ℕ) (parts : List Part) (j : ℕ) (v : Part) (i : ℕ) (u : Part) → IsTicket parts j v → IsTicket parts i u → i ≢ j
      → Event n w (desk_at c l parts) (desk_at c l (slice_set (slice_set parts j (with_handed_in v u)) i spent_part))

-- The states that events reach from the first one, in which the count is 0, the least number n, and
-- one ticket stands for all. There are at most 2^32 - 1 numbers and 255 tickets, so that a word of
-- 64 bits holds every count: a draw never comes round to 0.
pub data Reached (n w : ℕ) : DeskState → Type 0 where
  opened : n + w < 2 ^ 33 → 0 < w → Reached n w (desk_at 0 n (fresh_part n w w ∷ []))
  went_on : (s t : DeskState) → Reached n w s → Event n w s t → Reached n w t

-- The part v is that of a ticket in some state that events reach, of which this holds.
abbrev pub StandsIn : (DeskState → Type 0) → Part → Type 0
StandsIn holds v = (s : DeskState) × (j : ℕ) × Reached v.segments v.workers s × IsTicket s.parts j v × holds s
