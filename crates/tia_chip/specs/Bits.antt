-- Bits of a register. This project's own.
use Rattle.std.specs.Prelude.{ℕ, ◌+◌, Bool, if◌then◌else◌}
pub use Rattle.record_table.specs.Bits.{has_bit}

-- a byte by its bits 7 and 6
abbrev pub two_bits : Bool → Bool → ℕ
two_bits high low = (if high then 128 else 0) + (if low then 64 else 0)
