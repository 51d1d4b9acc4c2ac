-- What holds of each state of a desk, and of a ticket's part by itself. This project's own.
use Rattle.std.specs.Prelude.{◌≡◌, ℕ, ◌+◌, ◌<◌, ◌≤◌, true, slice_get, sum_by, Some}
use Rattle.segment_desk.specs.declared.part.Part.{Part}
use Rattle.segment_desk.specs.Desk.{times, DeskState, IsTicket}

-- Each number is drawn, and one that is passed over has a smaller one that is reported. So none up
-- to the least reported number is passed over, and if nothing is reported nothing is.
pub record IsWhole (v : Part) : Type 0 where
  pub all_drawn : (k : ℕ) → k < v.segments → times k v.drawn ≡ 1
  pub none_missed : (k : ℕ) → 0 < times k v.passed_over → (f : ℕ) × (f < k) × (0 < times f v.reported)

-- What a ticket's part says by itself, whatever the other tickets did.
pub record IsKnown (v : Part) : Type 0 where
  -- no number is drawn twice, and none from n on
  pub apart : (k : ℕ) → times k v.drawn ≤ 1
  pub within : (k : ℕ) → v.segments ≤ k → times k v.drawn ≡ 0
  -- what is reported or passed over was drawn, and so was the last number
  pub reports : (k : ℕ) → times k v.reported ≤ times k v.drawn
  pub passes : (k : ℕ) → times k v.passed_over ≤ times k v.drawn
  pub last_drawn : (k : ℕ) → v.last ≡ Some k → 0 < times k v.drawn
  -- one that stands for all first tickets and has ended misses nothing
  pub whole : v.ended ≡ true → v.share ≡ v.workers → IsWhole v

-- On how many drawn lists k stands, each counted as often as it stands there; and the same of the
-- reported lists.
abbrev pub drawn_times : ℕ → DeskState → ℕ
drawn_times k s = sum_by (λ (v : Part). times k v.drawn) s.parts

abbrev pub reported_times : ℕ → DeskState → ℕ
reported_times k s = sum_by (λ (v : Part). times k v.reported) s.parts

-- What holds of each state of a desk of n numbers and w tickets.
pub record IsDesk (n w : ℕ) (s : DeskState) : Type 0 where
  -- each ticket has n and w beside its part of the history
  pub sized : (j : ℕ) (v : Part) → IsTicket s.parts j v → (v.segments ≡ n) × (v.workers ≡ w)
  -- the numbers below the count and below n are each on one drawn list, once, and no other number
  -- is on any
  pub drawn_once : (k : ℕ) → k < s.count → k < n → drawn_times k s ≡ 1
  pub not_yet : (k : ℕ) → s.count ≤ k → drawn_times k s ≡ 0
  pub within : (k : ℕ) → n ≤ k → drawn_times k s ≡ 0
  pub count_le : s.count ≤ n + w
  -- the least number is the least on any reported list, or n if there is none
  pub least_le : s.least ≤ n
  pub none_below : (k : ℕ) → k < s.least → reported_times k s ≡ 0
  pub is_reported : s.least < n → 0 < reported_times s.least s
  -- and it is at most what any ticket has seen
  pub seen : (j : ℕ) (v : Part) (k : ℕ) → slice_get s.parts j ≡ Some v → v.seen ≡ Some k → s.least ≤ k
  -- a number is reported or passed over only on the ticket that drew it, and passed over only if
  -- a smaller one is reported
  pub own_reports : (j : ℕ) (v : Part) (k : ℕ) → slice_get s.parts j ≡ Some v → times k v.reported ≤ times k v.drawn
  pub own_passes : (j : ℕ) (v : Part) (k : ℕ) → slice_get s.parts j ≡ Some v → times k v.passed_over ≤ times k v.drawn
  pub smaller_reported : (j : ℕ) (v : Part) (k : ℕ) → slice_get s.parts j ≡ Some v → 0 < times k v.passed_over
      → (f : ℕ) × (f < k) × (0 < reported_times f s)
  -- shares add up to w, and a ticket of all shares that has ended misses nothing
  pub shares : sum_by (λ (v : Part). v.share) s.parts ≡ w
  pub whole : (j : ℕ) (v : Part) → IsTicket s.parts j v → v.ended ≡ true → v.share ≡ w → IsWhole v
