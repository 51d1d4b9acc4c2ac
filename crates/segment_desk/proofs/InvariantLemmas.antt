-- The invariant of the events, from which all that is claimed of a desk follows.
use Rattle.std.proofs.Common.{◌≡◌, ℕ, ◌+◌, ◌^◌, ◌<◌, ◌≤◌, ◌⊎◌, true, if◌then◌else◌, List, Some}
use Rattle.std.proofs.Common.{sum_by}
use mathlib.Core.Option.{some}
use lib.ListN.{get_elem?}
use Rattle.segment_desk.specs.declared.part.Part.{Part}
use Rattle.segment_desk.specs.Desk.{times, spent_part}

-- How often a part has k on its drawn list, and on its reported list.
abbrev pub drawn_of : ℕ → Part → ℕ
drawn_of k v = times k v.drawn

abbrev pub reported_of : ℕ → Part → ℕ
reported_of k v = times k v.reported

abbrev pub share_of : Part → ℕ
share_of v = v.share

-- What a ticket stands for, if it has ended.
abbrev pub ended_share : Part → ℕ
ended_share v = if v.ended then v.share else 0

-- What holds of each ticket's part.
pub record IsSound (n w count least : ℕ) (v : Part) : Type 0 where
  pub sized : (v ≡ spent_part) ⊎ ((v.segments ≡ n) × (v.workers ≡ w) × (0 < v.share))
  -- a number is reported or passed over only on the ticket that drew it
  pub reports : (k : ℕ) → times k v.reported ≤ times k v.drawn
  pub passes : (k : ℕ) → times k v.passed_over ≤ times k v.drawn
  -- and passed over only where it is above the least number
  pub behind : (k : ℕ) → k ≤ least → times k v.passed_over ≡ 0
  pub last_drawn : (k : ℕ) → v.last ≡ Some k → 0 < times k v.drawn
  pub seen_above : (k : ℕ) → v.seen ≡ Some k → least ≤ k
  pub done : v.ended ≡ true → n ≤ count

-- What holds between any two steps.
pub record IsLawful (n w count least : ℕ) (parts : List Part) : Type 0 where
  pub small : n + w < 2 ^ 33
  -- the numbers below the count and below n are each on one drawn list, once, and no other number
  -- is on any
  pub once : (k : ℕ) → k < count → k < n → sum_by (drawn_of k) parts ≡ 1
  pub not_yet : (k : ℕ) → count ≤ k → sum_by (drawn_of k) parts ≡ 0
  pub within : (k : ℕ) → n ≤ k → sum_by (drawn_of k) parts ≡ 0
  -- only a ticket that then ends draws past n, so the count is at most n + w
  pub few : count ≤ n + sum_by ended_share parts
  -- the least number is the least on any reported list, or n where there is none
  pub least_le : least ≤ n
  pub none_below : (k : ℕ) → k < least → sum_by (reported_of k) parts ≡ 0
  pub is_reported : least < n → 0 < sum_by (reported_of least) parts
  pub shares : sum_by share_of parts ≡ w
  pub each : (j : ℕ) (v : Part) → get_elem? parts j ≡ some v → IsSound n w count least v
