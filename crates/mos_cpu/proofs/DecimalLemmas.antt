-- Decimal sums and differences, digit by digit in natural numbers.
use Rattle.std.proofs.Common.{◌≡◌, ℕ, ◌+◌, ◌-◌, ◌%◌, ◌<◌, ◌≤◌, bit_and}
use Rattle.std.proofs.Common.{true, false, refl, inl, inr, sym, ◌∙◌, arith}
use Rattle.std.specs.Prelude.{◌⊎◌, ◌*◌, ◌/◌, nat_le, if◌then◌else◌, int_le, int_lt, ℤ, pos, ◌+ℤ◌, ◌-ℤ◌}
use Rattle.std.proofs.lemmas.Int.{ints}
use Rattle.std.proofs.lemmas.Nat.{and_mask}
use Rattle.std.proofs.lemmas.Nat.Bits.{and_high_mask}
use Rattle.std.proofs.lemmas.Bool.{cases_lt}
use Rattle.std.proofs.lemmas.Bool.Decides.{nat_tests}
use Rattle.mos_cpu.proofs.SumLemmas.{modulo_is}
use Rattle.mos_cpu.proofs.StatusLemmas.{and_one, put_flag-given}
use Rattle.mos_cpu.specs.Status.{has_flag}
use Rattle.mos_cpu.specs.Sums.{less_borrow}
use Rattle.mos_cpu.specs.declared.status.Flag.TheVariants.{Carry, Decimal}
use Rattle.mos_cpu.specs.Numbers.{modulo}
use Rattle.mos_cpu.specs.Decimal.{decimal_byte, low_digit, high_digit, low_sum, low_with_borrow}
use Rattle.mos_cpu.specs.Decimal.{decimal_sum_of, corrected_of, adc_of, decimal_difference, sbc_of}
use Rattle.mos_cpu.specs.Decimal.{high_with_borrow}

-- The sum of the low digits, with what it carries.
pub low_sum-lt : (a m p : ℕ) → low_sum a m p < 32
low_sum-lt a m p = grind (arith, nat_tests)

-- A low digit by a mask.
pub and_15 : (n : ℕ) → bit_and n 15 ≡ n % 16
and_15 n = and_mask n 4

-- The binary sum in two steps.
pub carried : (a m c : ℕ) → ((a + m) % 256 + c) % 256 ≡ (a + m + c) % 256
carried a m c = omega arith

-- A digit that lacks what is taken from it.
pub digit_modulo : (have taken : ℕ) → taken ≤ 16
    → (have + 26 - taken) % 16 ≡ modulo (pos have -ℤ pos taken -ℤ pos 6) 16
digit_modulo have taken h = sym (modulo_is _ 16 2 (have + 26 - taken) (omega arith) (omega (arith, ints)))

-- A low digit that lacks what is taken from it, with the 16 that it borrows.
pub low_lacks : (x y c digit : ℕ) → x + c < y + 1
    → digit ≡ modulo (pos (x + c) -ℤ pos (y + 1) -ℤ pos 6) 16
    → pos digit -ℤ pos 16 ≡ low_with_borrow (pos x -ℤ pos y +ℤ pos c -ℤ pos 1)
low_lacks x y c digit less e = grind (arith, ints, nat_tests)

-- The difference of the low digits, by their masks.
pub ruleset low_digits = (and_15, and_one, ints, nat_tests)

-- A high digit by a mask.
high_and : (n : ℕ) → n < 256 → bit_and n 240 ≡ high_digit n
high_and n h = and_high_mask 8 4 (omega arith) n h

-- Both digits, where they lack what is taken from them.
pub high_lacks : (a m digit borrowed : ℕ) (l : ℤ) → a < 256 → m < 256 → borrowed < 17 → pos digit -ℤ pos borrowed ≡ l
    → bit_and a 240 + digit < bit_and m 240 + borrowed
    → bit_and (bit_and a 240 + digit + 416 - (bit_and m 240 + borrowed)) 255
    ≡ modulo (high_with_borrow (pos (high_digit a) -ℤ pos (high_digit m) +ℤ l)) 256
high_lacks a m digit borrowed l ha hm small e less =
    let s = pos (high_digit a) -ℤ pos (high_digit m) +ℤ l in
    let have = bit_and a 240 + digit in
    let taken = bit_and m 240 + borrowed in
    let ea = high_and a ha in
    let em = high_and m hm in
    let test : int_lt s (pos 0) ≡ true = grind (arith, ints, nat_tests) in
    rw (test, modulo_is (s -ℤ pos 96) 256 2 (have + 416 - taken) (omega arith) (omega (arith, ints, e))) (and_mask (have + 416 - taken) 8)

-- Both digits, where they have it.
pub high_suffices : (a m digit borrowed : ℕ) (l : ℤ) → a < 256 → m < 256 → digit < 16 → pos digit -ℤ pos borrowed ≡ l
    → bit_and m 240 + borrowed ≤ bit_and a 240 + digit
    → bit_and a 240 + digit - (bit_and m 240 + borrowed)
    ≡ modulo (high_with_borrow (pos (high_digit a) -ℤ pos (high_digit m) +ℤ l)) 256
high_suffices a m digit borrowed l ha hm small e more =
    let s = pos (high_digit a) -ℤ pos (high_digit m) +ℤ l in
    let have = bit_and a 240 + digit in
    let taken = bit_and m 240 + borrowed in
    let ea = high_and a ha in
    let em = high_and m hm in
    let test : int_lt s (pos 0) ≡ false = grind (arith, ints, nat_tests) in
    rw (test, modulo_is s 256 0 (have - taken) (omega arith) (omega (arith, ints, e))) (omega arith)

-- ---- two decimal digits
digits : (n : ℕ) → n < 100 → (low_digit (decimal_byte n) ≡ n % 10) × (high_digit (decimal_byte n) ≡ n / 10 * 16)
digits n h = (omega arith, omega arith)

-- The sum of the ones, and what it carries.
low_sum-digits : (a m p : ℕ) → a < 100 → m < 100
    → low_sum (decimal_byte a) (decimal_byte m) p
    ≡ (let l = a % 10 + m % 10 + p % 2 in if nat_le 10 l then l + 6 else l)
low_sum-digits a m p ha hm = let da = (digits a ha).0 in let dm = (digits m hm).0 in rw (da, dm) (grind (arith, nat_tests))

corrected-digits : (a m p : ℕ) → a < 100 → m < 100
    → corrected_of (decimal_sum_of (decimal_byte a) (decimal_byte m) p)
    ≡ (let s = a + m + p % 2 in if nat_le 100 s then 256 + decimal_byte (s % 100) else decimal_byte s)
corrected-digits a m p ha hm =
    let da = (digits a ha).1 in
    let dm = (digits m hm).1 in
    rw (da, dm, low_sum-digits a m p ha hm) (grind (arith, nat_tests))

pub adc-digits : (a m p : ℕ) → a < 100 → m < 100 → has_flag Decimal p ≡ true
    → (adc_of (decimal_byte a) (decimal_byte m) p).value ≡ decimal_byte ((a + m + p % 2) % 100)
adc-digits a m p ha hm decimal = rw (decimal, corrected-digits a m p ha hm) (grind (arith, nat_tests))

pub adc-digits-carry : (a m p : ℕ) → a < 100 → m < 100 → has_flag Decimal p ≡ true
    → has_flag Carry (adc_of (decimal_byte a) (decimal_byte m) p).p ≡ nat_le 100 (a + m + p % 2)
adc-digits-carry a m p ha hm decimal =
    let sum = corrected-digits a m p ha hm in
    rw decimal (put_flag-given Carry _ _ ∙ rw sum (grind (arith, nat_tests)))

-- The difference of the ones, which is 6 less if it is negative.
low_difference-digits : (x y c : ℕ) → x < 10 → y < 10 → c < 2
    → low_with_borrow (pos x -ℤ pos y +ℤ pos c -ℤ pos 1)
    ≡ pos x -ℤ pos y +ℤ pos c -ℤ pos 1 -ℤ pos (if nat_le (y + 1) (x + c) then 0 else 6)
low_difference-digits x y c hx hy hc =
    let l = pos x -ℤ pos y +ℤ pos c -ℤ pos 1 in
    let digit = modulo_is (l -ℤ pos 6) 16 1 (x + c + 9 - y) (omega arith) (omega (arith, ints)) in
    grind (arith, ints, nat_tests)

-- The difference of both digits: 160 less than its digits if it is negative.
abbrev tens_and_ones : ℕ → ℕ → ℕ → ℤ
tens_and_ones a m c =
    pos (a / 10 * 16) -ℤ pos (m / 10 * 16)
    +ℤ (pos (a % 10) -ℤ pos (m % 10) +ℤ pos c -ℤ pos 1 -ℤ pos (if nat_le (m % 10 + 1) (a % 10 + c) then 0 else 6))

digits-lack : (a m c : ℕ) → a < 100 → m < 100 → c < 2 → a + c < m + 1
    → tens_and_ones a m c +ℤ pos 160 ≡ pos (decimal_byte (a + c + 100 - (m + 1)))
digits-lack a m c ha hm hc less = elim (cases_lt (a % 10 + c) (m % 10 + 1)) [
  | inl lacks ↦ (let test : nat_le (m % 10 + 1) (a % 10 + c) ≡ false = grind (arith, nat_tests) in rw test (omega (arith, ints)))
  | inr has ↦ (let test : nat_le (m % 10 + 1) (a % 10 + c) ≡ true = grind (arith, nat_tests) in rw test (omega (arith, ints)))
]

digits-suffice : (a m c : ℕ) → a < 100 → m < 100 → c < 2 → m + 1 ≤ a + c
    → tens_and_ones a m c ≡ pos (decimal_byte (a + c - (m + 1)))
digits-suffice a m c ha hm hc more = elim (cases_lt (a % 10 + c) (m % 10 + 1)) [
  | inl lacks ↦ (let test : nat_le (m % 10 + 1) (a % 10 + c) ≡ false = grind (arith, nat_tests) in rw test (omega (arith, ints)))
  | inr has ↦ (let test : nat_le (m % 10 + 1) (a % 10 + c) ≡ true = grind (arith, nat_tests) in rw test (omega (arith, ints)))
]

difference-digits : (a m p : ℕ) → a < 100 → m < 100
    → decimal_difference (decimal_byte a) (decimal_byte m) p ≡ modulo (high_with_borrow (tens_and_ones a m (p % 2))) 256
difference-digits a m p ha hm =
    let da = digits a ha in
    let dm = digits m hm in
    let low = low_difference-digits (a % 10) (m % 10) (p % 2) (omega arith) (omega arith) (omega arith) in
    rw (da.0, dm.0, da.1, dm.1, low) refl

pub sbc-digits : (a m p : ℕ) → a < 100 → m < 100 → has_flag Decimal p ≡ true
    → (sbc_of (decimal_byte a) (decimal_byte m) p).value
    ≡ decimal_byte (modulo (less_borrow (pos a) (pos m) p) 100)
sbc-digits a m p ha hm decimal = rw (decimal, difference-digits a m p ha hm) (by (cases_lt (a + c) (m + 1)))
  where
    c : ℕ
    c = p % 2

    by : (a + c < m + 1) ⊎ (m + 1 ≤ a + c)
        → modulo (high_with_borrow (tens_and_ones a m c)) 256 ≡ decimal_byte (modulo (less_borrow (pos a) (pos m) p) 100)
    by (inl less) =
        let d = tens_and_ones a m c in
        let value = a + c + 100 - (m + 1) in
        let e = digits-lack a m c ha hm (omega arith) less in
        let test : int_lt d (pos 0) ≡ true = grind (arith, ints, nat_tests) in
        rw (test, modulo_is (d -ℤ pos 96) 256 1 (decimal_byte value) (omega arith) (omega (arith, ints)), modulo_is (less_borrow (pos a) (pos m) p) 100 1 value (omega arith) (omega (arith, ints)))
        (omega arith)
    by (inr more) =
        let d = tens_and_ones a m c in
        let value = a + c - (m + 1) in
        let e = digits-suffice a m c ha hm (omega arith) more in
        let test : int_lt d (pos 0) ≡ false = grind (arith, ints, nat_tests) in
        rw (test, modulo_is d 256 0 (decimal_byte value) (omega arith) (omega (arith, ints)), modulo_is (less_borrow (pos a) (pos m) p) 100 0 value (omega arith) (omega (arith, ints)))
        (omega arith)

pub sbc-digits-carry : (a m p : ℕ) → a < 100 → m < 100
    → has_flag Carry (sbc_of (decimal_byte a) (decimal_byte m) p).p ≡ int_le (pos 0) (less_borrow (pos a) (pos m) p)
sbc-digits-carry a m p ha hm = put_flag-given Carry _ _ ∙ grind (arith, ints, nat_tests)
