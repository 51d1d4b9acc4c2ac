-- Bytes of single bits; bit 0 is the lowest. This project's own.
use Rattle.std.specs.Prelude.{ℕ, ◌+◌, ◌^◌, Bool, if◌then◌else◌}
pub use Rattle.record_table.specs.Bits.{has_bit}

-- what bit k adds to a number
abbrev pub bit_weight : Bool → ℕ → ℕ
bit_weight b k = if b then 2 ^ k else 0

-- the byte of eight bits, each named by its number
abbrev pub byte_of_bits : (ℕ → Bool) → ℕ
byte_of_bits b =
    bit_weight (b 7) 7 + bit_weight (b 6) 6 + bit_weight (b 5) 5 + bit_weight (b 4) 4
    + bit_weight (b 3) 3 + bit_weight (b 2) 2 + bit_weight (b 1) 1 + bit_weight (b 0) 0
