-- ADC and SBC in decimal mode, by the MOS MCS6500 programming manual. What it leaves open is this
-- project's own: digits above 9, and N, V and Z.
use Rattle.std.specs.Prelude.{ℕ, ◌+◌, ◌*◌, ◌/◌, ◌%◌, ◌==◌, nat_le, ℤ, pos, ◌+ℤ◌, ◌-ℤ◌, int_lt}
use Rattle.std.specs.Prelude.{if◌then◌else◌}
use Rattle.mos_cpu.specs.Numbers.{signed, overflows, modulo}
use Rattle.mos_cpu.specs.Status.{has_flag, put_flag, carry_of}
use Rattle.mos_cpu.specs.Sums.{sum_of, binary_adc_of, less_borrow, binary_sbc_of}
use Rattle.mos_cpu.specs.declared.arithmetic.Alu.{Alu}
use Rattle.mos_cpu.specs.declared.status.Flag.TheVariants.{Carry, Zero, Decimal, Overflow, Negative}

-- The byte of a number of two decimal digits: its tens in the high digit, its ones in the low one.
abbrev pub decimal_byte : ℕ → ℕ
decimal_byte n = n / 10 * 16 + n % 10

-- The low digit of a byte, and its high digit as a multiple of 16.
abbrev pub low_digit : ℕ → ℕ
low_digit n = n % 16

abbrev pub high_digit : ℕ → ℕ
high_digit n = n / 16 * 16

-- The sum of the low digits and C. From 10 on it is 6 more modulo 16, and carries 16.
abbrev pub low_sum : ℕ → ℕ → ℕ → ℕ
low_sum a m p =
    let l = low_digit a + low_digit m + carry_of p in
    if nat_le 10 l then (l + 6) % 16 + 16 else l

-- The sum of both digits and C, before the high digit is corrected.
abbrev pub decimal_sum_of : ℕ → ℕ → ℕ → ℕ
decimal_sum_of a m p = high_digit a + high_digit m + low_sum a m p

-- The same with both high digits read as signed.
abbrev pub signed_sum_of : ℕ → ℕ → ℕ → ℤ
signed_sum_of a m p = signed (high_digit a) +ℤ signed (high_digit m) +ℤ pos (low_sum a m p)

-- The sum with its high digit corrected: from 160 on it is 96 more.
abbrev pub corrected_of : ℕ → ℕ
corrected_of sum = if nat_le 160 sum then sum + 96 else sum

-- The decimal sum with carry. This project's own: N and V are of the signed sum before the
-- correction, Z is of the binary sum.
abbrev pub decimal_adc_of : ℕ → ℕ → ℕ → Alu
decimal_adc_of a m p =
    let sum = corrected_of (decimal_sum_of a m p) in
    let signed_sum = signed_sum_of a m p in
    record {
      value = sum % 256;
      p = put_flag Carry (nat_le 256 sum)
          (put_flag Overflow (overflows signed_sum)
          (put_flag Negative (has_flag Negative (modulo signed_sum 256))
          (put_flag Zero (sum_of a m p % 256 == 0) p)));
    }

abbrev pub adc_of : ℕ → ℕ → ℕ → Alu
adc_of a m p = if has_flag Decimal p then decimal_adc_of a m p else binary_adc_of a m p

-- A difference of low digits. If it is negative it is 6 less modulo 16, and borrows 16.
abbrev pub low_with_borrow : ℤ → ℤ
low_with_borrow l = if int_lt l (pos 0) then pos (modulo (l -ℤ pos 6) 16) -ℤ pos 16 else l

-- The difference of the low digits with borrow.
abbrev pub low_difference_of : ℕ → ℕ → ℕ → ℤ
low_difference_of a m p = low_with_borrow (less_borrow (pos (low_digit a)) (pos (low_digit m)) p)

-- A difference of both digits. If it is negative it is 96 less.
abbrev pub high_with_borrow : ℤ → ℤ
high_with_borrow s = if int_lt s (pos 0) then s -ℤ pos 96 else s

-- The decimal difference with borrow.
abbrev pub decimal_difference : ℕ → ℕ → ℕ → ℕ
decimal_difference a m p =
    modulo (high_with_borrow (pos (high_digit a) -ℤ pos (high_digit m) +ℤ low_difference_of a m p)) 256

-- The difference with borrow. All its flags are those of the binary difference, of which N, V and Z
-- are this project's own.
abbrev pub sbc_of : ℕ → ℕ → ℕ → Alu
sbc_of a m p =
    let binary = binary_sbc_of a m p in
    record {
      value = (if has_flag Decimal p then decimal_difference a m p else binary.value);
      p = binary.p;
    }
