-- Windows: up to 32 pixels of a line, by words of which the lowest bit is the first pixel.
use Rattle.std.proofs.Common.{◌≡◌, ℕ, ◌+◌, ◌-◌, ◌*◌, ◌/◌, ◌%◌, ◌^◌, ◌<◌, ◌≤◌, ◌&&◌, nat_lt}
use Rattle.std.proofs.Common.{Bool, true, false, if◌then◌else◌, List, [], ◌∷◌, bit_and}
use Rattle.std.proofs.Common.{◌==◌, slice_index_or}
use Rattle.std.proofs.Common.{inl, inr, refl, sym, ap, ◌∙◌, arith}
use Rattle.std.specs.Int.{trailing_zeros, w32}
use Rattle.std.proofs.lemmas.Bool.{cases_lt}
use Rattle.std.proofs.lemmas.Bool.Decides.{nat_tests}
use Rattle.std.proofs.lemmas.Nat.{and_le_l}
use Rattle.std.proofs.lemmas.Nat.Bits.{bit_at-trailing_zeros}
use Rattle.tia_core.specs.Bits.{has_bit}
use Rattle.tia_core.specs.Collision.{number_from, pairs_of}
use Rattle.tia_core.specs.Objects.{objects_at}
use Rattle.tia_core.specs.Private.MaskWords.{word_bit}
use Rattle.tia_core.specs.Private.ObjectSets.{has_two, one}
use Rattle.tia_core.specs.Private.ObjectMasks.{AreInWindow, IsWindowOf}
use Rattle.tia_core.specs.Private.StretchPairs.{meet_within}
use Rattle.tia_core.specs.declared.fields.TiaFields.{TiaFields}
use Rattle.tia_core.specs.declared.objects.Objects.{Objects}
use Rattle.tia_core.specs.declared.window.Window.{Window}
use Rattle.tia_core.proofs.PairLemmas.{no-two}
use Rattle.tia_core.proofs.MaskWordLemmas.{any_from-none, any_from-some, bit-high, bit-low}
use Rattle.tia_core.proofs.MaskWordLemmas.{cat-high, cat-low}
use Rattle.tia_core.proofs.MaskWordLemmas.{bit-zero, bit_and-is}

pub is-before : (k n : ℕ) → k < n → nat_lt k n ≡ true
is-before k n h = grind (arith, nat_tests)

-- ---- a window in two words
pub joined-bit : (low high first k : ℕ) → low < 2 ^ 32 → k < 32
    → has_bit ((high * 2 ^ 32 + low) / 2 ^ first % 2 ^ 32) k
    ≡ (if nat_lt (first + k) 32 then has_bit low (first + k) else has_bit high (first + k - 32))
joined-bit low high first k h lt =
    bit-low ((high * 2 ^ 32 + low) / 2 ^ first) 32 k lt ∙ bit-high (high * 2 ^ 32 + low) first k
    ∙ grind (arith, nat_tests, cat-low high 32 low (first + k), cat-high high 32 low (first + k))

pub window-bit : (words : List ℕ) (next first k : ℕ) → (first / 32 < 4 → next ≡ first / 32 + 1) → k < 32 → first + k < 160
    → (if nat_lt (first % 32 + k) 32 then has_bit (slice_index_or words (first / 32) 0) (first % 32 + k) else has_bit (slice_index_or words next 0) (first % 32 + k - 32))
    ≡ word_bit words (first + k)
window-bit words next first k after lt most = elim (cases_lt (first % 32 + k) 32) [
  | inl here ↦ (let yes : nat_lt (first % 32 + k) 32 ≡ true = is-before (first % 32 + k) 32 here in
      let word : (first + k) / 32 ≡ first / 32 = omega arith in
      let bit : (first + k) % 32 ≡ first % 32 + k = omega arith in
      rw (yes, word, bit) refl)
  | inr later ↦ (let no : nat_lt (first % 32 + k) 32 ≡ false = grind (arith, nat_tests) in
      let word : (first + k) / 32 ≡ next = omega (arith, after (omega arith)) in
      let bit : (first + k) % 32 ≡ first % 32 + k - 32 = omega arith in
      rw (no, word, bit) refl)
]

-- ---- pairs in a window
-- a bit that two words don't have in common
pub unset : (n w k : ℕ) → bit_and n w ≡ 0 → has_bit w k ≡ true → has_bit n k ≡ false
unset n w k e h =
    let none : (has_bit n k && has_bit w k) ≡ false = sym (bit_and-is n w k) ∙ rw e (bit-zero k) in
    grind arith

-- where no pixel is covered twice no pair meets
pub none-in-window : (t : TiaFields) (first : ℕ) (w : Window) (k : ℕ) → AreInWindow t first w → k < 32 → first + k < 160
    → has_two (has_bit w.player0 k) (has_bit w.player1 k) (has_bit w.missile0 k) (has_bit w.missile1 k) (has_bit w.ball k) (has_bit w.playfield k) ≡ false
    → pairs_of (objects_at t (first + k)) ≡ 0
none-in-window t first w k are h most two = no-two (objects_at t (first + k))
    (rw (
      ← are.player0 k h most,
      ← are.player1 k h most,
      ← are.missile0 k h most,
      ← are.missile1 k h most,
      ← are.ball k h most,
      ← are.playfield k h most,
    ) two)

-- whether two words have a bit in common within a window is whether their objects meet there
pub window-met : (t : TiaFields) (from to within : ℕ) → to ≤ 160 → to - from ≤ 32 → ((k : ℕ) → has_bit within k ≡ nat_lt k (to - from))
    → (a b : Objects → Bool) (v w : ℕ) (result : Bool) → IsWindowOf t a from v → IsWindowOf t b from w
    → (result ≡ true → (0 < bit_and (bit_and v w) within) × (v < 2 ^ 32))
    → (result ≡ false → bit_and (bit_and v w) within ≡ 0)
    → result ≡ meet_within t a b from (to - from)
window-met t from to within most short inside a b v w true va wb some none =
    let p = some refl in
    let n : ℕ = bit_and (bit_and v w) within in
    let fits : n < 2 ^ 32 = omega (arith, and_le_l (bit_and v w) within, and_le_l v w, p.1) in
    let z = bit_at-trailing_zeros w32 n p.0 fits in
    let k : ℕ = trailing_zeros w32 n in
    let lt : k < 32 = z.0 in
    let set : has_bit n k ≡ true = ap (λ (b : ℕ). b == 1) z.1 in
    let three = three-set v w within k set in
    let near : k < to - from = before-end k (to - from) (sym (inside k) ∙ three.2) in
    sym (any_from-some (λ y. a (objects_at t y) && b (objects_at t y)) from (to - from) (from + k) (omega arith) (omega arith)
    (rw (← va k lt (omega arith), ← wb k lt (omega arith), three.0, three.1) refl))
  where
    three-set : (v w u k : ℕ) → has_bit (bit_and (bit_and v w) u) k ≡ true → (has_bit v k ≡ true) × (has_bit w k ≡ true) × (has_bit u k ≡ true)
    three-set v w u k e =
        let f = bit_and-is (bit_and v w) u k in
        let g = bit_and-is v w k in
        grind arith

    before-end : (k n : ℕ) → nat_lt k n ≡ true → k < n
    before-end k n e = grind (arith, nat_tests)
window-met t from to within most short inside a b v w false va wb some none = sym
    (any_from-none (λ y. a (objects_at t y) && b (objects_at t y)) from (to - from) (λ y le lt.
    let k : ℕ = y - from in
    let at : from + k ≡ y = omega arith in
    let there : has_bit within k ≡ true = inside k ∙ is-before k (to - from) (omega arith) in
    let clear : (has_bit v k && has_bit w k) ≡ false = sym (bit_and-is v w k) ∙ unset (bit_and v w) within k (none refl) there in
    rw (← at, ← va k (omega arith) (omega arith), ← wb k (omega arith) (omega arith)) clear))

-- an object without a pixel within a window meets none there
pub window-without : (t : TiaFields) (from to within : ℕ) → to ≤ 160 → to - from ≤ 32 → ((k : ℕ) → has_bit within k ≡ nat_lt k (to - from))
    → (a b : Objects → Bool) (v w : ℕ) → IsWindowOf t a from v → IsWindowOf t b from w → bit_and v within ≡ 0
    → false ≡ meet_within t a b from (to - from)
window-without t from to within most short inside a b v w va wb none = sym
    (any_from-none (λ y. a (objects_at t y) && b (objects_at t y)) from (to - from) (λ y le lt.
    let k : ℕ = y - from in
    let at : from + k ≡ y = omega arith in
    let there : has_bit within k ≡ true = inside k ∙ is-before k (to - from) (omega arith) in
    let clear : has_bit v k ≡ false = unset v within k none there in
    rw (← at, ← va k (omega arith) (omega arith), clear) refl))

-- fifteen bits by groups
pub number-by-groups : (a b c d e f g h i j k l m n o : Bool)
    → (16384 * one a + 8192 * one b + 64 * one i + 32 * one j + one o) + (4096 * one c + 2048 * one d + 16 * one k + 8 * one l)
    + (1024 * one e + 512 * one f + 2 * one n) + (256 * one g + 128 * one h) + 4 * one m
    ≡ number_from 0 (a ∷ b ∷ c ∷ d ∷ e ∷ f ∷ g ∷ h ∷ i ∷ j ∷ k ∷ l ∷ m ∷ n ∷ o ∷ [])
number-by-groups a b c d e f g h i j k l m n o = omega arith
