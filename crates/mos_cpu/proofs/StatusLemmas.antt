-- The bits of the status, as the code tests and makes them.
use Rattle.std.proofs.Common.{◌≡◌, ◌≢◌, ℕ, ◌+◌, ◌-◌, ◌*◌, ◌/◌, ◌%◌, ◌<◌, Bool, true, false, nat_eq, refl}
use Rattle.std.proofs.Common.{◌^◌, ◌≤◌, rules, arith, bit_and, bit_or, ap, sym, ◌∙◌}
use Rattle.std.specs.Prelude.{not, ◌==◌, if◌then◌else◌}
use Rattle.std.proofs.lemmas.Bool.Decides.{nat_tests}
use Rattle.std.proofs.lemmas.Bool.{agree_below, agree_below_at, eqb-true}
use Rattle.std.proofs.lemmas.Grind.{common_steps}
use Rattle.mos_cpu.proofs.BitLemmas.{put_bit-others}
use Rattle.mos_cpu.specs.Status.{flag_weight, has_flag, put_flag, pushed_of}
use Rattle.mos_cpu.specs.declared.status.Flag.{Flag}
use Rattle.mos_cpu.specs.declared.status.Flag.TheVariants.{Carry, Zero, Interrupt, Decimal}
use Rattle.mos_cpu.specs.declared.status.Flag.TheVariants.{Overflow, Negative}

-- Two numbers made of a byte, or two tests of it, that are equal for each byte.
pub at_byte : (f g : ℕ → ℕ) → agree_below (λ q. nat_eq (f q) (g q)) (λ q. true) 256 ≡ true → (p : ℕ) → p < 256 → f p ≡ g p
at_byte f g e p h = eqb-true _ _ (agree_below_at (λ q. nat_eq (f q) (g q)) (λ q. true) 256 p e h)

test_at_byte : (f g : ℕ → Bool) → agree_below f g 256 ≡ true → (p : ℕ) → p < 256 → f p ≡ g p
test_at_byte f g e p h = agree_below_at f g 256 p e h

-- The bit of a flag tested.
pub and_weight : (flag : Flag) (p : ℕ) → p < 256 → not (nat_eq (bit_and p (flag_weight flag)) 0) ≡ has_flag flag p
and_weight Carry = test_at_byte _ _ refl
and_weight other = test_at_byte _ _ refl

-- The bit of a flag set.
pub or_weight : (flag : Flag) (p : ℕ) → p < 256
    → bit_or (bit_and p (255 - flag_weight flag)) (flag_weight flag) ≡ put_flag flag true p
or_weight Carry = at_byte _ _ refl
or_weight other = at_byte _ _ refl

-- The bit of a flag cleared.
pub and_not_weight : (flag : Flag) (p : ℕ) → p < 256 → bit_and p (255 - flag_weight flag) ≡ put_flag flag false p
and_not_weight Carry = at_byte _ _ refl
and_not_weight other = at_byte _ _ refl

-- The carry, as a bit.
pub and_one : (p : ℕ) → bit_and p 1 ≡ p % 2
and_one p = search (rules, common_steps)

-- Bits 5 and 4 set in a byte.
pub or_48 : (p : ℕ) → p < 256 → bit_or p 48 ≡ p % 16 + 48 + p / 64 * 64
or_48 = at_byte _ _ refl

-- Bits 5 and 4 dropped from a byte.
pub and_207 : (b : ℕ) → b < 256 → bit_and b 207 ≡ b % 16 + b / 64 * 64
and_207 = at_byte _ _ refl

pub and_207-status : (b : ℕ) → b < 256 → bit_and b 207 / 16 % 4 ≡ 0
and_207-status = at_byte _ _ refl

-- A pulled status.
pub ruleset pulls = (and_207, and_207-status)

-- A flag that was put is as it was put, and each other flag is as it was.
pub put_flag-given : (flag : Flag) (on : Bool) (p : ℕ) → has_flag flag (put_flag flag on p) ≡ on
put_flag-given Carry on p = grind (arith, nat_tests)
put_flag-given flag on p = grind (arith, nat_tests)

-- The place of a flag's bit, which no other flag has.
abbrev place : Flag → ℕ
place Carry = 0
place Zero = 1
place Interrupt = 2
place Decimal = 3
place Overflow = 6
place Negative = 7

abbrev flag_at : ℕ → Flag
flag_at n =
    if n == 0 then Carry else (if n == 1 then Zero else (if n == 2 then Interrupt
    else (if n == 3 then Decimal else (if n == 6 then Overflow else Negative))))

flag_at-place : (flag : Flag) → flag_at (place flag) ≡ flag
flag_at-place Carry = refl
flag_at-place flag = refl

flag_weight-place : (flag : Flag) → flag_weight flag ≡ 2 ^ place flag
flag_weight-place Carry = refl
flag_weight-place flag = refl

other_bit : (flag other : Flag) (on : Bool) (p : ℕ) → flag ≢ other
    → put_flag flag on p / flag_weight other % 2 ≡ p / flag_weight other % 2
other_bit flag other on p differ =
    let apart : place flag ≢ place other = λ e. differ (sym (flag_at-place flag) ∙ ap flag_at e ∙ flag_at-place other) in
    rw (flag_weight-place flag, flag_weight-place other) (put_bit-others (place flag) (place other) on p apart)

pub put_flag-others : (flag other : Flag) (on : Bool) (p : ℕ) → flag ≢ other → has_flag other (put_flag flag on p) ≡ has_flag other p
put_flag-others flag other on p differ = ap (λ n. n == 1) (other_bit flag other on p differ)

-- Bits 5 and 4, which no flag has.
apart-status : (flag : Flag) → (place flag ≢ 4) × (place flag ≢ 5)
apart-status Carry = (omega arith, omega arith)
apart-status flag = (omega arith, omega arith)

pub put_flag-status : (flag : Flag) (on : Bool) (p : ℕ) → put_flag flag on p / 16 % 4 ≡ p / 16 % 4
put_flag-status flag on p =
    let apart = apart-status flag in
    let low = put_bit-others (place flag) 4 on p apart.0 in
    let high = put_bit-others (place flag) 5 on p apart.1 in
    rw flag_weight-place (omega arith)

-- A flag set or cleared.
pub ruleset puts = (or_weight, and_not_weight, put_flag-status)

-- Two flags put in either order.
part_fits : (flag : Flag) (n : ℕ) → flag_weight flag * (n / flag_weight flag % 2) ≤ n
part_fits Carry n = omega arith
part_fits flag n = omega arith

pub put_flag-swap : (flag other : Flag) (on also : Bool) (p : ℕ) → flag ≢ other
    → put_flag flag on (put_flag other also p) ≡ put_flag other also (put_flag flag on p)
put_flag-swap flag other on also p differ =
    let first = part_fits flag p in
    let both = rw (other_bit flag other false p differ) at (part_fits other (put_flag flag false p)) in
    rw (other_bit flag other on p differ, other_bit other flag also p (λ e. differ (sym e))) (omega arith)

-- The flags of a pushed status.
pub pushed_of-flags : (flag : Flag) (p : ℕ) → has_flag flag (pushed_of p) ≡ has_flag flag p
pushed_of-flags flag p = grind (arith, nat_tests)
