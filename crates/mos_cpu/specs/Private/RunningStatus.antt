-- How a processor that runs keeps its status: N and Z as a number that they come from, C by itself, and
-- the other bits as they are. This project's own, for proofs alone: no public contract names it.
use Rattle.std.specs.Prelude.{ℕ, ◌%◌, Bool, true, false, ◌==◌, nat_le}
use Rattle.mos_cpu.specs.Status.{put_flag}
use Rattle.mos_cpu.specs.declared.status.Flag.{Flag}
use Rattle.mos_cpu.specs.declared.status.Flag.TheVariants.{Carry, Zero, Negative}

-- Z by the number: whether its low byte is 0.
abbrev pub kept_zero : ℕ → Bool
kept_zero kept = kept % 256 == 0

-- N by the number: whether it is 128 or more. A byte has its bit 7 so.
abbrev pub kept_negative : ℕ → Bool
kept_negative kept = nat_le 128 kept

-- The status, by a byte with the other flags, C, and the number. What the byte has in the bits of N, Z
-- and C counts for nothing.
abbrev pub status_byte : ℕ → Bool → ℕ → ℕ
status_byte others carry kept =
    put_flag Negative (kept_negative kept) (put_flag Zero (kept_zero kept) (put_flag Carry carry others))

-- Whether a flag is kept by itself.
abbrev pub is_apart : Flag → Bool
is_apart Zero = false
is_apart Negative = false
is_apart other = true
