-- Which steps light an object whose copies follow from its counter, by a word that has a bit for each age.
use Rattle.std.proofs.Common.{◌≡◌, ◌∙◌, ℕ, zero, suc, ◌+◌, ◌-◌, ◌<◌, ◌≤◌, ◌&&◌, ◌||◌, inl, inr, Bool, false, arith, ap, sym}
use Rattle.std.proofs.lemmas.Bool.{cases_lt, cond-false}
use Rattle.std.proofs.lemmas.Bool.Decides.{nat_tests}
use Rattle.std.specs.Prelude.{bit_or, nat_le, nat_lt}
use Rattle.tia_core.proofs.MaskWordLemmas.{bit_or-is}
use Rattle.tia_chip.proofs.QuietAges.{age-next, counter-later, counter-next, counter-now}
use Rattle.tia_chip.proofs.Strides.{NoneBegins, later-none, now-none}
use Rattle.tia_chip.specs.Bits.{has_bit}
use Rattle.tia_chip.specs.Counter.{begins_copy}
use Rattle.tia_chip.specs.Quiet.{age_of, counter_after}

-- ---- ages while no copy begins
one-older : (mode counter : ℕ) → mode < 8 → counter < 160 → begins_copy mode counter ≡ false → age_of mode (counter_after 1 counter) ≡ age_of mode counter + 1
one-older mode counter m l b =
    ap (age_of mode) (sym (counter-next counter l)) ∙ (age-next mode counter m l ∙ cond-false (begins_copy mode counter) _ _ b)

pub older : (n mode counter : ℕ) → mode < 8 → counter < 160 → NoneBegins mode counter n → age_of mode (counter_after n counter) ≡ age_of mode counter + n
older zero mode counter m l h = ap (age_of mode) (sym (counter-now counter l)) ∙ omega arith
older (suc n) mode counter m l h =
    let next = counter_after 1 counter in
    let once = one-older mode counter m l (now-none mode counter n l h) in
    let rest = older n mode next m (omega arith) (later-none mode counter n h) in
    ap (age_of mode) (sym (counter-later n counter)) ∙ (rest ∙ omega (arith, once))

-- ---- a run of steps, of which the last may begin a copy
counter-on : (n k counter : ℕ) → counter_after k (counter_after n counter) ≡ counter_after (n + k) counter
counter-on n k counter = omega arith

-- the bits of the ages from one on are those of the steps
pub run-shows : (shape mode counter n r k : ℕ) → mode < 8 → counter < 160 → k < r → NoneBegins mode (counter_after n counter) (r - 1)
    → has_bit shape (age_of mode (counter_after n counter) + k) ≡ has_bit shape (age_of mode (counter_after (n + k) counter))
run-shows shape mode counter n r k m l i h =
    let now = counter_after n counter in
    let few : now < 160 = omega arith in
    ap (has_bit shape) (sym (older k mode now m few (λ j below. h j (omega arith))) ∙ ap (age_of mode) (counter-on n k counter))

-- ---- words
before : (n r k : ℕ) (shown other : Bool) → k < n → ((nat_lt k n && shown) || (nat_lt k 64 && (nat_le n k && other))) ≡ (nat_lt k (n + r) && shown)
before n r k shown other l = grind (arith, nat_tests)

in-run : (n r k : ℕ) (shown : Bool) → n ≤ k → k < n + r → n + r ≤ 64 → ((nat_lt k n && shown) || (nat_lt k 64 && (nat_le n k && shown))) ≡ (nat_lt k (n + r) && shown)
in-run n r k shown l m few = grind (arith, nat_tests)

past-run : (n r k : ℕ) (shown : Bool) → n + r ≤ k → ((nat_lt k n && shown) || (nat_lt k 64 && (nat_le n k && false))) ≡ (nat_lt k (n + r) && shown)
past-run n r k shown l = grind (arith, nat_tests)

not-in : (j r : ℕ) (b : Bool) → r ≤ j → (nat_lt j r && b) ≡ false
not-in j r b l = grind (arith, nat_tests)

is-in : (j r : ℕ) (b : Bool) → j < r → (nat_lt j r && b) ≡ b
is-in j r b l = grind (arith, nat_tests)

-- A word with the first n steps, and one with the next r at their places, have the first n + r.
joined : (n r k word : ℕ) (shown : Bool) → n + r ≤ 64 → ((j : ℕ) → n + j ≡ k → j < r → has_bit word j ≡ shown) → ((j : ℕ) → r ≤ j → has_bit word j ≡ false)
    → ((nat_lt k n && shown) || (nat_lt k 64 && (nat_le n k && has_bit word (k - n)))) ≡ (nat_lt k (n + r) && shown)
joined n r k word shown few in_word out = elim (cases_lt k n) [
  | inl l ↦ before n r k shown (has_bit word (k - n)) l
  | inr l ↦ elim (cases_lt k (n + r)) [
    | inl m ↦ ap (λ (b : Bool). (nat_lt k n && shown) || (nat_lt k 64 && (nat_le n k && b))) (in_word (k - n) (omega arith) (omega arith)) ∙ in-run n r k shown l m few
    | inr m ↦ ap (λ (b : Bool). (nat_lt k n && shown) || (nat_lt k 64 && (nat_le n k && b))) (out (k - n) (omega arith)) ∙ past-run n r k shown m
  ]
]

pub lit-on : (shape mode counter lit from word placed n r : ℕ) → mode < 8 → counter < 160 → n + r ≤ 64 → NoneBegins mode (counter_after n counter) (r - 1)
    → ((k : ℕ) → has_bit lit k ≡ (nat_lt k n && has_bit shape (age_of mode (counter_after k counter))))
    → ((k : ℕ) → has_bit from k ≡ has_bit shape (age_of mode (counter_after n counter) + k))
    → ((k : ℕ) → has_bit word k ≡ (nat_lt k r && has_bit from k))
    → ((k : ℕ) → has_bit placed k ≡ (nat_lt k 64 && (nat_le n k && has_bit word (k - n))))
    → (k : ℕ) → has_bit (bit_or lit placed) k ≡ (nat_lt k (n + r) && has_bit shape (age_of mode (counter_after k counter)))
lit-on shape mode counter lit from word placed n r m l few none held begun kept at k =
    let shown = has_bit shape (age_of mode (counter_after k counter)) in
    bit_or-is lit placed k
    ∙ (ap (λ (b : Bool). b || has_bit placed k) (held k)
    ∙ (ap (λ (b : Bool). (nat_lt k n && shown) || b) (at k)
    ∙ joined n r k word shown few
    (λ j e i. kept j ∙ (is-in j r (has_bit from j) i ∙ (begun j ∙ (run-shows shape mode counter n r j m l i none ∙ ap (λ (x : ℕ). has_bit shape (age_of mode (counter_after x counter))) e))))
    (λ j i. kept j ∙ not-in j r (has_bit from j) i)))
