-- What a replay leaves of a ticket. This project's own.
use Rattle.std.specs.Prelude.{ℕ, ◌≡◌, Bool, true, false}
use Rattle.segment_desk.specs.declared.part.Part.{Part}
use Rattle.segment_desk.specs.Desk.{report_at}

-- What a ticket knows after a replay of the number that it drew last, which passed or did not: that
-- is reported unless it passed.
abbrev pub IsReplayed : Bool → ℕ → Part → Part → Type 0
IsReplayed true number old new = new ≡ old
IsReplayed false number old new = (x : ℕ) × (new ≡ report_at x number old)
