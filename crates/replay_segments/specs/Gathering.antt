-- What is said of pieces that are gathered, in any order of arrival and with repeats. This
-- project's own.
use Rattle.std.specs.Prelude.{ℕ, ◌<◌, ◌≡◌, ◌≢◌, IsTrue, List, All, Some, Err, slice_get, sum_by, alloc_error}
use Rattle.replay_segments.specs.Pieces.{PieceData, Job, passed, outcome_pictures}

-- All pieces are of one movie, with the same cuts, and keep the same frames.
abbrev pub NamesAll : Job → List PieceData → Type 0
NamesAll job pieces = All (λ (p : PieceData). p.job ≡ job) pieces

-- There is a piece of this number.
abbrev pub HasNumber : List PieceData → ℕ → Type 0
HasNumber pieces number =
    (i : ℕ) × (p : PieceData) × (slice_get pieces i ≡ Some p) × (p.number ≡ number)

-- There is one of this number that passed.
abbrev pub HasPassed : List PieceData → ℕ → Type 0
HasPassed pieces number =
    (i : ℕ) × (p : PieceData) × (slice_get pieces i ≡ Some p) × (p.number ≡ number) × IsTrue (passed p.outcome)

-- Each smaller number has one that passed.
abbrev pub PassedBelow : List PieceData → ℕ → Type 0
PassedBelow pieces number = (k : ℕ) → k < number → HasPassed pieces k

-- There is no piece of this number.
abbrev pub IsMissing : List PieceData → ℕ → Type 0
IsMissing pieces number = (i : ℕ) (p : PieceData) → slice_get pieces i ≡ Some p → p.number ≢ number

-- All pieces of this number are without memory.
abbrev pub AllRefused : List PieceData → ℕ → Type 0
AllRefused pieces number =
    (i : ℕ) (p : PieceData) → slice_get pieces i ≡ Some p → p.number ≡ number → p.outcome ≡ Err alloc_error

-- Of the numbers below n this is the first without a piece that passed, and it has no piece at all.
abbrev pub IsFirstMissing : List PieceData → ℕ → ℕ → Type 0
IsFirstMissing pieces n k = (k < n) × IsMissing pieces k × PassedBelow pieces k

-- Of the numbers below n this is the first without a piece that passed, and all its pieces are
-- without memory.
abbrev pub IsFirstRefused : List PieceData → ℕ → ℕ → Type 0
IsFirstRefused pieces n k = (k < n) × HasNumber pieces k × AllRefused pieces k × PassedBelow pieces k

-- How many pictures the pieces have.
abbrev pub picture_count : List PieceData → ℕ
picture_count pieces = sum_by (λ (p : PieceData). outcome_pictures p.outcome) pieces
