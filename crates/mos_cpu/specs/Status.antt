-- The status register, by the MOS MCS6500 programming manual.
use Rattle.std.specs.Prelude.{ℕ, ◌+◌, ◌-◌, ◌*◌, ◌/◌, ◌%◌, Bool, ◌==◌, if◌then◌else◌}
use Rattle.mos_cpu.specs.declared.status.Flag.{Flag}
use Rattle.mos_cpu.specs.declared.status.Flag.TheVariants.{Carry, Zero, Interrupt, Decimal}
use Rattle.mos_cpu.specs.declared.status.Flag.TheVariants.{Overflow, Negative}

-- The weight of a flag's bit: N V D I Z C are bits 7 6 3 2 1 0.
abbrev pub flag_weight : Flag → ℕ
flag_weight Carry = 1
flag_weight Zero = 2
flag_weight Interrupt = 4
flag_weight Decimal = 8
flag_weight Overflow = 64
flag_weight Negative = 128

-- Whether a flag is set, or its bit in any byte.
abbrev pub has_flag : Flag → ℕ → Bool
has_flag flag p = p / flag_weight flag % 2 == 1

-- The status with a flag set or cleared. Its other bits stay.
abbrev pub put_flag : Flag → Bool → ℕ → ℕ
put_flag flag on p = p - flag_weight flag * (p / flag_weight flag % 2) + (if on then flag_weight flag else 0)

-- The carry as a number.
abbrev pub carry_of : ℕ → ℕ
carry_of p = p % 2

-- The status with N and Z of a value: its bit 7, and whether it is 0.
abbrev pub with_nz : ℕ → ℕ → ℕ
with_nz value p = put_flag Negative (has_flag Negative value) (put_flag Zero (value == 0) p)

-- The status as PHP and BRK push it: with bits 5 and 4 set, whatever they were.
abbrev pub pushed_of : ℕ → ℕ
pushed_of p = p % 16 + 48 + p / 64 * 64

-- A byte as PLP and RTI pull it: without bits 5 and 4.
abbrev pub pulled_of : ℕ → ℕ
pulled_of byte = byte % 16 + byte / 64 * 64
