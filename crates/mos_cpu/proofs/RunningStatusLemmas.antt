-- The status as a running processor keeps it.
use Rattle.std.proofs.Common.{◌≡◌, ◌≢◌, ℕ, ◌+◌, ◌*◌, ◌/◌, ◌%◌, ◌<◌, ◌≤◌, Bool, true, refl}
use Rattle.std.proofs.Common.{rules, arith, bit_and, ap, ◌∙◌, sym}
use Rattle.std.specs.Prelude.{◌==◌}
use Rattle.std.proofs.lemmas.Bool.Decides.{nat_tests}
use Rattle.std.proofs.lemmas.Nat.Bits.{and_high_mask}
use Rattle.mos_cpu.proofs.StatusLemmas.{at_byte, put_flag-given, put_flag-others, put_flag-status, put_flag-swap}
use Rattle.mos_cpu.specs.Status.{has_flag, put_flag}
use Rattle.mos_cpu.specs.Private.RunningStatus.{kept_zero, kept_negative, status_byte, is_apart}
use Rattle.mos_cpu.specs.declared.status.Flag.{Flag}
use Rattle.mos_cpu.specs.declared.status.Flag.TheVariants.{Carry, Zero}
use Rattle.mos_cpu.specs.declared.status.Flag.TheVariants.{Negative}

-- A byte's own N, Z and C put into it.
pub own : (p : ℕ) → p < 256
    → put_flag Negative (has_flag Negative p) (put_flag Zero (has_flag Zero p) (put_flag Carry (has_flag Carry p) p)) ≡ p
own = at_byte _ _ refl

pub ruleset of_byte = (own, rules)

-- A flag put again.
put_twice : (flag : Flag) (on before : Bool) (p : ℕ) → put_flag flag on (put_flag flag before p) ≡ put_flag flag on p
put_twice Carry on before p = grind (arith, nat_tests)
put_twice flag on before p = grind (arith, nat_tests)

-- A flag other than N and Z, put below N and Z, and below C too.
below_both : (flag : Flag) → is_apart flag ≡ true → (on n z : Bool) (p : ℕ)
    → put_flag Negative n (put_flag Zero z (put_flag flag on p)) ≡ put_flag flag on (put_flag Negative n (put_flag Zero z p))
below_both flag h on n z p =
    rw (
      put_flag-swap Zero flag z on p (λ e. absurd (cc (ap is_apart e))),
      put_flag-swap Negative flag n on _ (λ e. absurd (cc (ap is_apart e))),
    ) refl

module _ (others : ℕ) (carry : Bool) (kept : ℕ) where
  pub put_below : (flag : Flag) (on : Bool) → is_apart flag ≡ true → flag ≢ Carry
      → status_byte (put_flag flag on others) carry kept ≡ put_flag flag on (status_byte others carry kept)
  put_below flag on h differ =
      rw (put_flag-swap Carry flag carry on others (λ e. differ (sym e))) (below_both flag h on _ _ _)

  -- C put in place of another.
  pub put_carry : (on : Bool) → status_byte others on kept ≡ put_flag Carry on (status_byte others carry kept)
  put_carry on = rw (← below_both Carry refl on _ _ (put_flag Carry carry others), put_twice Carry) refl

  -- N and Z put in place of others, by a number that they come from.
  pub put_signs : (sign low by : ℕ) → kept_negative by ≡ has_flag Negative sign → kept_zero by ≡ (low == 0)
      → status_byte others carry by
      ≡ put_flag Negative (has_flag Negative sign) (put_flag Zero (low == 0) (status_byte others carry kept))
  put_signs sign low by e f =
      rw (put_flag-swap Zero Negative _ _ _ (λ e. absurd cc), put_twice Negative, put_twice Zero, e, f) refl

  -- Bits 5 and 4.
  pub put_status : status_byte others carry kept / 16 % 4 ≡ others / 16 % 4
  put_status = put_flag-status Negative _ _ ∙ put_flag-status Zero _ _ ∙ put_flag-status Carry carry others

  -- The flags of a status.
  pub has_negative : has_flag Negative (status_byte others carry kept) ≡ kept_negative kept
  has_negative = put_flag-given Negative _ _

  pub has_zero : has_flag Zero (status_byte others carry kept) ≡ kept_zero kept
  has_zero = put_flag-others Negative Zero _ _ (λ e. absurd cc) ∙ put_flag-given Zero _ _

  has_other : (flag : Flag) → flag ≢ Zero → flag ≢ Negative
      → has_flag flag (status_byte others carry kept) ≡ has_flag flag (put_flag Carry carry others)
  has_other flag not_zero not_negative =
      put_flag-others Negative flag _ _ (λ e. not_negative (sym e)) ∙ put_flag-others Zero flag _ _ (λ e. not_zero (sym e))

  pub has_carry : has_flag Carry (status_byte others carry kept) ≡ carry
  has_carry = has_other Carry (λ e. absurd cc) (λ e. absurd cc) ∙ put_flag-given Carry carry others

  pub has_bit : (flag : Flag) → flag ≢ Carry → flag ≢ Zero → flag ≢ Negative
      → has_flag flag (status_byte others carry kept) ≡ has_flag flag others
  has_bit flag not_carry not_zero not_negative =
      has_other flag not_zero not_negative ∙ put_flag-others Carry flag carry others (λ e. not_carry (sym e))

-- A byte as the number that N and Z come from.
pub byte_negative : (value : ℕ) → value < 256 → kept_negative value ≡ has_flag Negative value
byte_negative value h = grind (arith, nat_tests)

pub byte_zero : (value : ℕ) → value < 256 → kept_zero value ≡ (value == 0)
byte_zero value h = grind (arith, nat_tests)

-- The number of one byte's bit 7 and of another byte, which has bit 7 only if the first has it.
module _ (sign low : ℕ) (less : sign < 256) (most : low ≤ sign) where
  bit_7 : bit_and sign 128 ≡ sign / 128 * 128
  bit_7 = and_high_mask 8 7 (omega arith) sign less

  pub both_negative : kept_negative (bit_and sign 128 * 256 + low) ≡ has_flag Negative sign
  both_negative = rw bit_7 (grind (arith, nat_tests))

  pub both_zero : kept_zero (bit_and sign 128 * 256 + low) ≡ (low == 0)
  both_zero = rw bit_7 (grind (arith, nat_tests))
