-- Sums and differences over the whole numbers, in natural ones and in bits.
use Rattle.std.proofs.Common.{◌≡◌, ℕ, ◌+◌, ◌-◌, ◌*◌, ◌/◌, ◌%◌, ◌^◌, ◌<◌}
use Rattle.std.proofs.Common.{nat_eq, refl, ap, ◌∙◌, arith, bit_and, bit_or}
use Rattle.std.specs.Prelude.{not, nat_le, min, bit_xor, ◌==◌, ℤ, pos, ◌+ℤ◌, ◌-ℤ◌}
use Rattle.std.specs.Prelude.{int_le, unsigned_abs}
use Rattle.std.proofs.lemmas.Int.{ints, int_rem_euclid_is}
use Rattle.std.proofs.lemmas.Bool.Decides.{nat_tests}
use Rattle.std.proofs.lemmas.Nat.{or_shifted}
use Rattle.std.proofs.lemmas.Nat.Bits.{and_pow, bit_at_and, bit_at_xor}
use Rattle.mos_cpu.specs.Numbers.{signed, overflows, modulo}
use Rattle.mos_cpu.specs.Sums.{sum_of, less_borrow, binary_adc_of, binary_sbc_of}

-- A number modulo n, by a natural one that is some times n more.
pub modulo_is : (z : ℤ) (n k m : ℕ) → 0 < n → z +ℤ pos (k * n) ≡ pos m → modulo z n ≡ m % n
modulo_is z n k m h e = ap unsigned_abs (int_rem_euclid_is z (pos n) n k m h refl e)

-- The difference of two bytes, as the code makes it, and whether it is 0.
pub difference_byte : (a m : ℕ) → m < 256 → modulo (pos a -ℤ pos m) 256 ≡ (a + (256 - m)) % 256
difference_byte a m h = modulo_is _ 256 1 (a + (256 - m)) (omega arith) (omega (arith, ints))

pub difference_zero : (a m : ℕ) → a < 256 → m < 256 → ((a + (256 - m)) % 256 == 0) ≡ (a == m)
difference_zero a m ha hm = grind (arith, nat_tests)

-- The top bit, in a test as the code makes it.
top_bit : (a m v : ℕ)
    → bit_and (bit_and (bit_xor a v) (bit_xor m v)) 128
    ≡ min ((a / 128 % 2 + v / 128 % 2) % 2) ((m / 128 % 2 + v / 128 % 2) % 2) * 128
top_bit a m v =
    rw (
      and_pow (bit_and (bit_xor a v) (bit_xor m v)) 7,
      bit_at_and (bit_xor a v) (bit_xor m v) 7,
      bit_at_xor a v 7,
      bit_at_xor m v 7,
    ) refl

-- The operands' top bits differ from the sum's exactly where the signed sum is out of range.
pub top_bits-overflow : (a m x y c v : ℕ) → x < 256 → y < 256 → a / 128 % 2 ≡ x / 128
    → m / 128 % 2 ≡ y / 128 → x % 128 + y % 128 + c < 256 → v ≡ (x + y + c) % 256
    → not (nat_eq (bit_and (bit_and (bit_xor a v) (bit_xor m v)) 128) 0)
    ≡ overflows (signed x +ℤ signed y +ℤ pos c)
top_bits-overflow a m x y c v hx hy ha hm hc hv = rw (top_bit a m v, ha, hm) (grind (arith, ints, nat_tests))

-- A rotated value with the carry below.
pub or_carry : (m carry : ℕ) → carry < 2 → bit_or (m * 2 % 256) carry ≡ (2 * m + carry) % 256
or_carry m carry h =
    let e : m * 2 % 256 ≡ m % 128 * 2 ^ 1 = omega arith in
    rw e (or_shifted (m % 128) 1 carry (omega arith) ∙ omega arith)

-- A signed sum modulo 256 is the sum of the bytes.
pub signed_sum-modulo : (x y c : ℕ) → x < 256 → y < 256
    → modulo (signed x +ℤ signed y +ℤ pos c) 256 ≡ (x + y + c) % 256
signed_sum-modulo x y c hx hy =
    modulo_is _ 256 2 (x + y + c + 512 - 256 * (x / 128 + y / 128)) (omega arith) (grind (arith, ints, nat_tests)) ∙ omega arith

-- A difference is the sum with the complement.
pub binary_sbc_adc : (a m p : ℕ) → a < 256 → m < 256
    → binary_adc_of a (255 - m) p ≡ binary_sbc_of a m p
binary_sbc_adc a m p ha hm =
    let d = less_borrow (pos a) (pos m) p in
    let sum = sum_of a (255 - m) p in
    let carry : int_le (pos 0) d ≡ nat_le 256 sum = grind (arith, ints, nat_tests) in
    let range : less_borrow (signed a) (signed m) p ≡ signed a +ℤ signed (255 - m) +ℤ pos (p % 2) = grind (arith, ints, nat_tests) in
    rw (modulo_is d 256 1 sum (omega arith) (omega (arith, ints)), carry, range) refl
