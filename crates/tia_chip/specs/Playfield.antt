-- The playfield: twenty bits, shown on the left half of a line and again, or mirrored, on the right.
-- Stella Programmer's Guide: PF0, PF1, PF2 and CTRLPF D0. Measured in Stella 6.7: when the bits and
-- D0 are taken.
use Rattle.std.specs.Prelude.{ℕ, ◌+◌, ◌-◌, ◌/◌, ◌%◌, ◌==◌, ◌&&◌, nat_lt, nat_le, Bool, false, if◌then◌else◌}
use Rattle.tia_chip.specs.Bits.{has_bit}
use Rattle.tia_chip.specs.declared.state.TiaState.{TiaState}

-- bit i of the twenty: PF0 bits 4 to 7, PF1 bits 7 to 0, PF2 bits 0 to 7
abbrev pub playfield_bit : ℕ → ℕ → ℕ → ℕ → Bool
playfield_bit pf0 pf1 pf2 i =
    if nat_lt i 4 then has_bit pf0 (4 + i) else if nat_lt i 12 then has_bit pf1 (11 - i) else has_bit pf2 (i - 12)

-- which bit pixel x shows
abbrev pub playfield_index : Bool → ℕ → ℕ
playfield_index mirrored x =
    if nat_lt x 80 then x / 4 else if mirrored then 19 - (x - 80) / 4 else (x - 80) / 4

-- whether the right half is mirrored, as pixel x begins: CTRLPF D0 is taken as pixel 80 does
abbrev pub mirrored_at : TiaState → ℕ → Bool
mirrored_at t x = if x == 80 then has_bit t.ctrlpf 0 else t.mirrored

-- the TIA as pixel x begins: each fourth takes a bit, which stays for four pixels
abbrev pub playfield_at : TiaState → ℕ → TiaState
playfield_at t x =
    if x % 4 == 0
    then record t {
      mirrored = mirrored_at t x;
      playfield = playfield_bit t.pf0 t.pf1 t.pf2 (playfield_index (mirrored_at t x) x);
    }
    else t

-- The TIA once the playfield has its bit for this clock. It is also taken in the blank that HMOVE
-- makes longer. In the blank that RSYNC leaves, at clocks 225 to 227, the playfield isn't on.
abbrev pub with_playfield : TiaState → TiaState
with_playfield t =
    if nat_lt t.clock 68 then t
    else if nat_le 225 t.clock && t.longer then record t { playfield = false }
    else playfield_at t (t.beam - 68)
