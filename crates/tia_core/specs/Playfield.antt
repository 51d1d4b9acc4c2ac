-- The playfield: twenty bits, shown on the left half of a line and again, or mirrored, on the
-- right. Stella Programmer's Guide: PF0, PF1, PF2 and CTRLPF D0.
use Rattle.std.specs.Prelude.{ℕ, ◌+◌, ◌-◌, ◌/◌, nat_lt, Bool, if◌then◌else◌}
use Rattle.tia_core.specs.Bits.{has_bit}

-- bit i of the twenty: PF0 bits 4 to 7, PF1 bits 7 to 0, PF2 bits 0 to 7
abbrev pub playfield_bit : ℕ → ℕ → ℕ → ℕ → Bool
playfield_bit pf0 pf1 pf2 i =
    if nat_lt i 4 then has_bit pf0 (4 + i) else if nat_lt i 12 then has_bit pf1 (11 - i) else has_bit pf2 (i - 12)

-- which bit pixel x shows
abbrev pub playfield_index : Bool → ℕ → ℕ
playfield_index mirrored x =
    if nat_lt x 80 then x / 4 else if mirrored then 19 - (x - 80) / 4 else (x - 80) / 4
