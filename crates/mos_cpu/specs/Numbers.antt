-- Bytes as signed numbers. MOS MCS6500 programming manual: two's complement.
use Rattle.std.specs.Prelude.{ℕ, Bool, ◌||◌, nat_le, ℤ, pos, neg_ℤ, ◌-ℤ◌, int_lt, unsigned_abs}
use Rattle.std.specs.Prelude.{if◌then◌else◌}
use Rattle.std.specs.Int.{int_rem_euclid}

-- A byte that is read as a signed number.
abbrev pub signed : ℕ → ℤ
signed n = if nat_le 128 n then pos n -ℤ pos 256 else pos n

-- Whether a number is outside of -128..127.
abbrev pub overflows : ℤ → Bool
overflows z = int_lt z (neg_ℤ (pos 128)) || int_lt (pos 127) z

-- What is left of a number modulo n, from 0 on.
abbrev pub modulo : ℤ → ℕ → ℕ
modulo z n = unsigned_abs (int_rem_euclid z (pos n))
