-- The pixels that show one bit of the playfield.
use Rattle.std.proofs.Common.{◌≡◌, ◌∙◌, ℕ, ◌+◌, ◌-◌, ◌%◌, ◌<◌, ◌≤◌, ◌&&◌, ◌||◌, inl, inr, Bool, true, false, arith, ap, sym, bit_or, if◌then◌else◌}
use Rattle.std.proofs.lemmas.Bool.{and_left, and_right, cases_lt, lt-ltb}
use Rattle.std.proofs.lemmas.Bool.Decides.{nat_tests}
use Rattle.std.specs.Prelude.{nat_le, nat_lt}
use Rattle.tia_core.proofs.MaskWordLemmas.{bit-zero, bit_or-is}
use Rattle.tia_chip.specs.Bits.{has_bit}
use Rattle.tia_chip.specs.Playfield.{playfield_bit, playfield_index}
use Rattle.tia_chip.specs.Private.Lines.{shown_mirrored, shown_playfield}
use Rattle.tia_chip.specs.declared.state.TiaState.{TiaState}

-- they are alike
pub shown-alike : (t : TiaState) (first k n j : ℕ) → (first + k) % 4 + n ≤ 4 → k ≤ j → j < k + n → shown_playfield t first (first + j) ≡ shown_playfield t first (first + k)
shown-alike t first k n j alike from to =
    let start : first + j - (first + j) % 4 ≡ first + k - (first + k) % 4 = omega arith in
    ap (λ (s : ℕ). if nat_lt s first then t.playfield else playfield_bit t.pf0 t.pf1 t.pf2 (playfield_index (shown_mirrored t first s) s)) start

-- ---- where it lights them
placed-under : (k n j : ℕ) (b p s : Bool) → j < k → (nat_lt j 64 && (nat_le k j && b)) ≡ ((nat_le k j && nat_lt j (k + n)) && (p && s))
placed-under k n j b p s l = grind (arith, nat_tests)

placed-in : (k n j : ℕ) (b p s : Bool) → k + n ≤ 64 → k ≤ j → j < k + n → b ≡ (nat_lt (j - k) n && p) → s ≡ true
    → (nat_lt j 64 && (nat_le k j && b)) ≡ ((nat_le k j && nat_lt j (k + n)) && (p && s))
placed-in k n j b p s few from to e shown = grind (arith, nat_tests)

placed-over : (k n j : ℕ) (b p s : Bool) → k + n ≤ j → b ≡ (nat_lt (j - k) n && p) → (nat_lt j 64 && (nat_le k j && b)) ≡ ((nat_le k j && nat_lt j (k + n)) && (p && s))
placed-over k n j b p s l e = grind (arith, nat_tests)

-- the bits of a part of a word
part-bit : (pixels from part k n j : ℕ) → ((i : ℕ) → has_bit from i ≡ has_bit pixels (k + i)) → ((i : ℕ) → has_bit part i ≡ (nat_lt i n && has_bit from i)) → k ≤ j
    → has_bit part (j - k) ≡ (nat_lt (j - k) n && has_bit pixels j)
part-bit pixels from part k n j gone kept l =
    let place : k + (j - k) ≡ j = omega arith in
    kept (j - k) ∙ ap (λ (b : Bool). nat_lt (j - k) n && b) (gone (j - k) ∙ ap (has_bit pixels) place)

pub lit-part : (t : TiaState) (first pixels from part word k n j : ℕ) → k + n ≤ 64 → (first + k) % 4 + n ≤ 4 → ((i : ℕ) → has_bit from i ≡ has_bit pixels (k + i))
    → ((i : ℕ) → has_bit part i ≡ (nat_lt i n && has_bit from i)) → ((i : ℕ) → has_bit word i ≡ (nat_lt i 64 && (nat_le k i && has_bit part (i - k))))
    → shown_playfield t first (first + k) ≡ true
    → has_bit word j ≡ ((nat_le k j && nat_lt j (k + n)) && (has_bit pixels j && shown_playfield t first (first + j)))
lit-part t first pixels from part word k n j few alike gone kept at shown =
    let p = has_bit pixels j in
    let s = shown_playfield t first (first + j) in
    let b = has_bit part (j - k) in
    at j ∙ elim (cases_lt j k) [
      | inl l ↦ placed-under k n j b p s l
      | inr l ↦ let bit = part-bit pixels from part k n j gone kept l in
          elim (cases_lt j (k + n)) [
            | inl m ↦ placed-in k n j b p s few l m bit (shown-alike t first k n j alike l m ∙ shown)
            | inr m ↦ placed-over k n j b p s m bit
          ]
    ]

-- ---- where it lights none of them
dark-out : (k n j : ℕ) (a : Bool) → (nat_le k j && nat_lt j (k + n)) ≡ false → false ≡ ((nat_le k j && nat_lt j (k + n)) && a)
dark-out k n j a e = grind arith

dark-bits : (k n j : ℕ) (p s : Bool) → (k ≤ j → j < k + n → (p && s) ≡ false) → has_bit 0 j ≡ ((nat_le k j && nat_lt j (k + n)) && (p && s))
dark-bits k n j p s none =
    bit-zero j ∙ elim (cases_lt j k) [
      | inl l ↦ dark-out k n j (p && s) (grind (arith, nat_tests))
      | inr l ↦ elim (cases_lt j (k + n)) [
        | inl m ↦ sym (and_right (nat_le k j && nat_lt j (k + n)) (p && s) (none l m))
        | inr m ↦ dark-out k n j (p && s) (grind (arith, nat_tests))
      ]
    ]

pub dark-part : (t : TiaState) (first pixels k n j : ℕ) → (first + k) % 4 + n ≤ 4 → shown_playfield t first (first + k) ≡ false
    → has_bit 0 j ≡ ((nat_le k j && nat_lt j (k + n)) && (has_bit pixels j && shown_playfield t first (first + j)))
dark-part t first pixels k n j alike dark =
    let p = has_bit pixels j in
    let s = shown_playfield t first (first + j) in
    dark-bits k n j p s (λ l m. and_right p s (shown-alike t first k n j alike l m ∙ dark))

pub no-part : (t : TiaState) (first pixels from part k n j : ℕ) → ((i : ℕ) → has_bit from i ≡ has_bit pixels (k + i)) → ((i : ℕ) → has_bit part i ≡ (nat_lt i n && has_bit from i))
    → part ≡ 0 → has_bit 0 j ≡ ((nat_le k j && nat_lt j (k + n)) && (has_bit pixels j && shown_playfield t first (first + j)))
no-part t first pixels from part k n j gone kept none =
    let p = has_bit pixels j in
    let s = shown_playfield t first (first + j) in
    dark-bits k n j p s (λ l m.
    let few : nat_lt (j - k) n ≡ true = lt-ltb (j - k) n (omega arith) in
    let bit : p ≡ false =
    ap (λ (b : Bool). b && p) (sym few) ∙ (sym (part-bit pixels from part k n j gone kept l) ∙ (ap (λ (w : ℕ). has_bit w (j - k)) none ∙ bit-zero (j - k))) in
    and_left p s bit)

-- ---- the parts so far, and one more
both-under : (k n j : ℕ) (a : Bool) → j < k → ((nat_lt j k && a) || ((nat_le k j && nat_lt j (k + n)) && a)) ≡ (nat_lt j (k + n) && a)
both-under k n j a l = grind (arith, nat_tests)

both-from : (k n j : ℕ) (a : Bool) → k ≤ j → ((nat_lt j k && a) || ((nat_le k j && nat_lt j (k + n)) && a)) ≡ (nat_lt j (k + n) && a)
both-from k n j a l = grind (arith, nat_tests)

both : (k n j : ℕ) (a : Bool) → ((nat_lt j k && a) || ((nat_le k j && nat_lt j (k + n)) && a)) ≡ (nat_lt j (k + n) && a)
both k n j a = elim (cases_lt j k) [ inl l ↦ both-under k n j a l | inr l ↦ both-from k n j a l ]

pub part-more : (lit part k n j : ℕ) (a : Bool) → has_bit lit j ≡ (nat_lt j k && a) → has_bit part j ≡ ((nat_le k j && nat_lt j (k + n)) && a)
    → has_bit (bit_or lit part) j ≡ (nat_lt j (k + n) && a)
part-more lit part k n j a before here = bit_or-is lit part j ∙ (rw (before, here) (both k n j a))
