-- ADC and SBC outside decimal mode, by the MOS MCS6500 programming manual.
use Rattle.std.specs.Prelude.{ℕ, ◌+◌, ◌%◌, nat_le, ℤ, pos, ◌+ℤ◌, ◌-ℤ◌, int_le}
use Rattle.mos_cpu.specs.Numbers.{signed, overflows, modulo}
use Rattle.mos_cpu.specs.Status.{put_flag, carry_of, with_nz}
use Rattle.mos_cpu.specs.declared.arithmetic.Alu.{Alu}
use Rattle.mos_cpu.specs.declared.status.Flag.TheVariants.{Carry, Overflow}

-- The sum of two bytes and C.
abbrev pub sum_of : ℕ → ℕ → ℕ → ℕ
sum_of a m p = a + m + carry_of p

-- The binary sum with carry: C is its carry, and V says that the signed sum is out of range.
abbrev pub binary_adc_of : ℕ → ℕ → ℕ → Alu
binary_adc_of a m p =
    let sum = sum_of a m p in
    let signed_sum = signed a +ℤ signed m +ℤ pos (carry_of p) in
    record {
      value = sum % 256;
      p = put_flag Carry (nat_le 256 sum)
          (put_flag Overflow (overflows signed_sum) (with_nz (sum % 256) p));
    }

-- A difference with borrow: 1 less if C isn't set.
abbrev pub less_borrow : ℤ → ℤ → ℕ → ℤ
less_borrow a m p = a -ℤ m +ℤ pos (carry_of p) -ℤ pos 1

-- The binary difference with borrow: C says that none is borrowed, and V that the signed difference
-- is out of range.
abbrev pub binary_sbc_of : ℕ → ℕ → ℕ → Alu
binary_sbc_of a m p =
    let difference = less_borrow (pos a) (pos m) p in
    let signed_difference = less_borrow (signed a) (signed m) p in
    let value = modulo difference 256 in
    record {
      value = value;
      p = put_flag Carry (int_le (pos 0) difference)
          (put_flag Overflow (overflows signed_difference) (with_nz value p));
    }
