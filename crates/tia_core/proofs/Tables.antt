-- Tables of bits, and the rows that they give.
use Rattle.std.proofs.Common.{◌≡◌, ℕ, ◌-◌, ◌/◌, ◌^◌, ◌<◌, ◌≤◌}
use Rattle.std.proofs.Common.{inl, inr, if◌then◌else◌, nat_lt, Bool, true, false}
use Rattle.std.proofs.Common.{◌∙◌, arith}
use Rattle.std.proofs.lemmas.Bool.{agree_below, agree_below_at, cases_lt}
use Rattle.std.proofs.lemmas.Bool.Decides.{nat_tests}
use Rattle.std.proofs.lemmas.Nat.Bits.{bit_at_ones}
use Rattle.std.proofs.lemmas.Nat.Bits.{bit_at_ones_above}
use Rattle.tia_core.specs.Bits.{has_bit}
use Rattle.tia_core.specs.Coverage.{is_shown_at}

-- ---- what a table says of each number is tried at each number
-- bit k of f n is bit `place k` of n, for each k below `width`
abbrev places_agree : (ℕ → ℕ) → ℕ → (ℕ → ℕ) → ℕ → Bool
places_agree f width place n = agree_below (has_bit (f n)) (λ k. has_bit n (place k)) width

pub table_bits : (f : ℕ → ℕ) (most width : ℕ) (place : ℕ → ℕ) → agree_below (places_agree f width place) (λ n. true) most ≡ true
    → (n k : ℕ) → n < most → k < width → has_bit (f n) k ≡ has_bit n (place k)
table_bits f most width place h n k p q =
    agree_below_at (has_bit (f n)) (λ i. has_bit n (place i)) width k (agree_below_at (places_agree f width place) (λ m. true) most n h p) q

pub table_below : (f : ℕ → ℕ) (most limit : ℕ) → agree_below (λ n. nat_lt (f n) limit) (λ n. true) most ≡ true → (n : ℕ) → n < most → f n < limit
table_below f most limit h n p = let e = agree_below_at (λ m. nat_lt (f m) limit) (λ m. true) most n h p in grind (arith, nat_tests)

-- ---- rows
pub ones-is : (size d : ℕ) → has_bit (2 ^ size - 1) d ≡ nat_lt d size
ones-is size d = grind (arith, nat_tests, bit_at_ones size d, bit_at_ones_above size d)

-- a row of a player's dots, each `width / 8` pixels wide, is what a copy shows
pub row_shows : (width : ℕ) (reflected : Bool) (graphic dots row d : ℕ)
    → ((k : ℕ) → k < 8 → has_bit dots k ≡ has_bit graphic (if reflected then k else 7 - k))
    → (d < width → d / (width / 8) < 8) → (d < width → has_bit row d ≡ has_bit dots (d / (width / 8))) → (width ≤ d → has_bit row d ≡ false)
    → has_bit row d ≡ is_shown_at width reflected graphic d
row_shows width reflected graphic dots row d h p q r = elim (cases_lt d width) [
  | inl lt ↦ (let e : nat_lt d width ≡ true = grind (arith, nat_tests) in rw e (q lt ∙ h (d / (width / 8)) (p lt)))
  | inr le ↦ (let e : nat_lt d width ≡ false = grind (arith, nat_tests) in rw e (r le))
]
