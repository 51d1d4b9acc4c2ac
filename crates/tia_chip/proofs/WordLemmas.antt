-- Words of which the first bits are kept, or that begin at another bit.
use Rattle.std.proofs.Common.{◌≡◌, ◌∙◌, ℕ, ◌+◌, ◌-◌, ◌*◌, ◌%◌, ◌^◌, ◌<◌, ◌≤◌, ◌==◌, ◌&&◌, ◌||◌, inl, inr, Bool, arith, ap, sym, bit_and}
use Rattle.std.proofs.lemmas.Bool.{cases_lt}
use Rattle.std.proofs.lemmas.Bool.Decides.{nat_tests}
use Rattle.std.proofs.lemmas.Nat.{and_mask, mod_below, one_shl, pow_pos}
use Rattle.std.specs.Prelude.{nat_le, nat_lt}
use Rattle.tia_core.proofs.MaskWordLemmas.{bit-above, bit-low, bit-shifted, bit-shifted_low, bit-zero}
use Rattle.tia_chip.specs.Bits.{has_bit}

-- ---- the first bits
low-in : (word n k : ℕ) → k < n → has_bit (word % 2 ^ n) k ≡ (nat_lt k n && has_bit word k)
low-in word n k l = grind (arith, nat_tests, bit-low word n k l)

low-out : (word n k : ℕ) → word < 2 ^ n → n ≤ k → has_bit word k ≡ (nat_lt k n && has_bit word k)
low-out word n k f l = grind (arith, nat_tests, bit-above word n k f l)

low-past : (word n k : ℕ) → word % 2 ^ n < 2 ^ n → n ≤ k → has_bit (word % 2 ^ n) k ≡ (nat_lt k n && has_bit word k)
low-past word n k f l = grind (arith, nat_tests, bit-above (word % 2 ^ n) n k f l)

low-bits : (word n k : ℕ) → has_bit (word % 2 ^ n) k ≡ (nat_lt k n && has_bit word k)
low-bits word n k = elim (cases_lt k n) [
  | inl l ↦ low-in word n k l
  | inr l ↦ low-past word n k (mod_below word (2 ^ n) (pow_pos n)) l
]

pub bits-kept : (word n k : ℕ) → n < 64 → has_bit (bit_and word (1 * 2 ^ n % 18446744073709551616 - 1)) k ≡ (nat_lt k n && has_bit word k)
bits-kept word n k h =
    ap (λ (m : ℕ). has_bit (bit_and word (m - 1)) k) (one_shl n 64 h) ∙ (ap (λ (m : ℕ). has_bit m k) (and_mask word n) ∙ low-bits word n k)

in-word : (word k : ℕ) → k < 64 → has_bit word k ≡ (nat_lt k 64 && has_bit word k)
in-word word k l = grind (arith, nat_tests)

pub bits-all : (word k : ℕ) → word < 18446744073709551616 → has_bit word k ≡ (nat_lt k 64 && has_bit word k)
bits-all word k f = elim (cases_lt k 64) [ inl l ↦ in-word word k l | inr l ↦ low-out word 64 k f l ]

-- ---- from another bit on
pub bits-gone : (word n k : ℕ) → word < 18446744073709551616 → 64 ≤ n → has_bit 0 k ≡ has_bit word (n + k)
bits-gone word n k f l = bit-zero k ∙ sym (bit-above word 64 (n + k) f (omega arith))

-- ---- at another bit
at-before : (word place k : ℕ) → k < 64 → k < place → has_bit (word * 2 ^ place % 18446744073709551616) k ≡ (nat_lt k 64 && (nat_le place k && has_bit word (k - place)))
at-before word place k l m = bit-low (word * 2 ^ place) 64 k l ∙ (bit-shifted_low word place k m ∙ grind (arith, nat_tests))

at-place : (word place k : ℕ) → k < 64 → place ≤ k → has_bit (word * 2 ^ place % 18446744073709551616) k ≡ (nat_lt k 64 && (nat_le place k && has_bit word (k - place)))
at-place word place k l m = bit-low (word * 2 ^ place) 64 k l ∙ (bit-shifted word place k m ∙ grind (arith, nat_tests))

at-past : (n k : ℕ) (b : Bool) → n < 18446744073709551616 → 64 ≤ k → has_bit n k ≡ (nat_lt k 64 && b)
at-past n k b f l = bit-above n 64 k f l ∙ grind (arith, nat_tests)

pub bits-placed : (word place k : ℕ) → has_bit (word * 2 ^ place % 18446744073709551616) k ≡ (nat_lt k 64 && (nat_le place k && has_bit word (k - place)))
bits-placed word place k = elim (cases_lt k 64) [
  | inl l ↦ elim (cases_lt k place) [ inl m ↦ at-before word place k l m | inr m ↦ at-place word place k l m ]
  | inr l ↦ at-past (word * 2 ^ place % 18446744073709551616) k (nat_le place k && has_bit word (k - place)) (omega arith) l
]

-- ---- a word with one more bit
below : (j k : ℕ) (a b : Bool) → j < k → ((nat_lt j k && a) || (b && (j == k))) ≡ (nat_lt j (k + 1) && a)
below j k a b l = grind (arith, nat_tests)

beyond : (j k : ℕ) (a b : Bool) → k < j → ((nat_lt j k && a) || (b && (j == k))) ≡ (nat_lt j (k + 1) && a)
beyond j k a b l = grind (arith, nat_tests)

here : (j k : ℕ) (a b : Bool) → j ≡ k → a ≡ b → ((nat_lt j k && a) || (b && (j == k))) ≡ (nat_lt j (k + 1) && a)
here j k a b l e = grind (arith, nat_tests)

pub one-more : (j k : ℕ) (shown : ℕ → Bool) → ((nat_lt j k && shown j) || (shown k && (j == k))) ≡ (nat_lt j (k + 1) && shown j)
one-more j k shown = elim (cases_lt j k) [
  | inl l ↦ below j k (shown j) (shown k) l
  | inr l ↦ elim (cases_lt k j) [ inl m ↦ beyond j k (shown j) (shown k) m | inr m ↦ let e : j ≡ k = omega arith in here j k (shown j) (shown k) e (ap shown e) ]
]
