-- A stretch of a line by runs of pixels of one colour.
use Rattle.std.proofs.Common.{◌≡◌, ℕ, zero, suc, ◌+◌, ◌-◌, ◌/◌, ◌%◌, ◌^◌, ◌<◌, ◌≤◌}
use Rattle.std.proofs.Common.{◌||◌, nat_lt, Bool, true, false, List, slice_index_or, bit_or, ◌∷◌, ◌++◌}
use Rattle.std.proofs.Common.{bit_and, bit_xor, refl, sym, ap, ◌∙◌, arith}
use Rattle.std.specs.Int.{trailing_zeros, w32}
use Rattle.std.proofs.lemmas.Bool.Decides.{nat_tests}
use Rattle.std.proofs.lemmas.Nat.Bits.{bit_at_xor, bit_at-lt, bit_at_ones, bit_at-trailing_zeros}
use Rattle.std.proofs.lemmas.Nat.Bits.{shr_and_one}
use Rattle.tia_core.specs.Bits.{has_bit}
use Rattle.tia_core.specs.Clock.{sink_after_pixels}
use Rattle.tia_core.specs.Colour.{colour_at}
use Rattle.tia_core.specs.Objects.{objects_at}
use Rattle.tia_core.specs.Runs.{run_drawn}
use Rattle.tia_core.specs.Mask.{covers}
use Rattle.tia_core.specs.Private.MaskWords.{pixels_in}
use Rattle.tia_core.specs.Private.StretchPixels.{pixel_at, stretch_pixels}
use Rattle.tia_core.specs.declared.fields.TiaFields.{TiaFields}
use Rattle.tia_core.specs.declared.objects.Objects.{Objects}
use Rattle.tia_core.proofs.ClockLemmas.{painted-append}
use Rattle.tia_core.proofs.MaskWordLemmas.{bit_or-is, bit-high, bit-zero, covers-is}

-- ---- runs pixel by pixel
-- pixels of one colour
pub stretch-one : {S : Type 0} (drawn : S → ℕ → ℕ → ℕ → S) (sink : S) (t : TiaFields) (line x k colour : ℕ)
    → ((y : ℕ) → x ≤ y → y < x + k → colour_at t (objects_at t y) y ≡ colour)
    → run_drawn drawn sink line x k colour ≡ sink_after_pixels drawn sink (stretch_pixels t line x k)
stretch-one drawn sink t line x zero colour h = refl
stretch-one drawn sink t line x (suc k) colour h =
    rw (h x (omega arith) (omega arith))
    (stretch-one drawn (drawn sink line x colour) t line (x + 1) k colour (λ y le lt. h y (omega arith) (omega arith)))

-- a stretch in two parts
stretch-parts : (t : TiaFields) (line x k n : ℕ) → stretch_pixels t line x (k + n) ≡ stretch_pixels t line x k ++ stretch_pixels t line (x + k) n
stretch-parts t line x zero n = let e : x + 0 ≡ x = omega arith in let f : zero + n ≡ n = omega arith in rw (e, f) refl
stretch-parts t line x (suc k) n =
    let e : x + suc k ≡ x + 1 + k = omega arith in
    let f : suc k + n ≡ suc (k + n) = omega arith in
    rw (e, f) (ap (◌∷◌ (pixel_at t line x)) (stretch-parts t line (x + 1) k n))

-- pixels of one colour, and then others
pub stretch-run-to : {S : Type 0} (drawn : S → ℕ → ℕ → ℕ → S) (sink : S) (t : TiaFields) (line x end to colour : ℕ) → x ≤ end → end ≤ to
    → ((y : ℕ) → x ≤ y → y < end → colour_at t (objects_at t y) y ≡ colour)
    → sink_after_pixels drawn (run_drawn drawn sink line x (end - x) colour) (stretch_pixels t line end (to - end))
    ≡ sink_after_pixels drawn sink (stretch_pixels t line x (to - x))
stretch-run-to drawn sink t line x end to colour le most h =
    let p : end - x + (to - end) ≡ to - x = omega arith in
    let q : x + (end - x) ≡ end = omega arith in
    let parts = rw (p, q) at (stretch-parts t line x (end - x) (to - end)) in
    rw (stretch-one drawn sink t line x (end - x) colour (λ y a b. h y a (omega arith)), parts)
    (sym (painted-append drawn sink (stretch_pixels t line x (end - x)) (stretch_pixels t line end (to - end))))

-- the colour of a pixel is that of another that the same objects cover, on the same side of the
-- comb and of the line's middle
pub colour-same : (t : TiaFields) (o : Objects) (x y : ℕ) → nat_lt x 8 ≡ nat_lt y 8 → nat_lt x 80 ≡ nat_lt y 80 → colour_at t o y ≡ colour_at t o x
unfolding colour_at
colour-same t o x y p q = rw (p, q) refl

-- a dark picture is of colour 0
pub colour-dark : (t : TiaFields) (o : Objects) (x : ℕ) → (has_bit t.vblank 1 || has_bit t.vsync 1) ≡ true → colour_at t o x ≡ 0
unfolding colour_at
colour-dark t o x h = rw h refl

pub same_side : (x y limit end : ℕ) → x ≤ y → y < end → (x < limit → end ≤ limit) → nat_lt x limit ≡ nat_lt y limit
same_side x y limit end le lt h = grind (arith, nat_tests)

-- ---- where a word changes
-- the bits before the lowest that is set
pub bits-before : (n k : ℕ) → n < 2 ^ 32 → 0 < k → k < trailing_zeros w32 (n / 2) + 1 → has_bit n k ≡ false
bits-before n k small pos lt = grind (arith, nat_tests, bit-high n 1 (k - 1), bit-zero (k - 1), bit_at-trailing_zeros w32 (n / 2))

-- a bit that is clear in six words together is clear in each
six-false : (a b c d e f : Bool) → (a || b || c || d || e || f) ≡ false
    → (a ≡ false) × (b ≡ false) × (c ≡ false) × (d ≡ false) × (e ≡ false) × (f ≡ false)
six-false a b c d e f h = grind arith

pub or-clear : (a b c d e f k : ℕ) → has_bit (bit_or (bit_or (bit_or (bit_or (bit_or a b) c) d) e) f) k ≡ false
    → (has_bit a k ≡ false) × (has_bit b k ≡ false) × (has_bit c k ≡ false) × (has_bit d k ≡ false) × (has_bit e k ≡ false) × (has_bit f k ≡ false)
or-clear a b c d e f k h = six-false _ _ _ _ _ _ (simp bit_or-is at h)

-- the bits from one on that are as it is
pub changes-one : (word first k : ℕ) → bit_and (word / 2 ^ first) 1 ≡ 1 → k < 32
    → has_bit (bit_xor (word / 2 ^ first) 4294967295) k ≡ false → has_bit word (first + k) ≡ has_bit word first
changes-one word first k one lt e =
    let rest : ℕ = word / 2 ^ first in
    grind (arith, nat_tests, bit-high word first k, shr_and_one word first, bit_at_xor rest 4294967295 k, bit_at_ones 32 k lt, bit_at-lt rest k)

pub changes-zero : (word first k : ℕ) → (bit_and (word / 2 ^ first) 1 ≡ 1 → ⊥)
    → has_bit (word / 2 ^ first) k ≡ false → has_bit word (first + k) ≡ has_bit word first
changes-zero word first k none e = grind (arith, nat_tests, bit-high word first k, shr_and_one word first, bit_at-lt word first)

pub covers-alike : (words : List ℕ) (x k : ℕ) → x < 160 → x % 32 + k < 32
    → has_bit (slice_index_or words (x / 32) 0) (x % 32 + k)
    ≡ has_bit (slice_index_or words (x / 32) 0) (x % 32)
    → covers (pixels_in words) (x + k) ≡ covers (pixels_in words) x
covers-alike words x k h lt e =
    let i : (x + k) / 32 ≡ x / 32 = omega arith in
    let j : (x + k) % 32 ≡ x % 32 + k = omega arith in
    covers-is words (x + k) (omega arith) ∙ rw (i, j) e ∙ sym (covers-is words x h)
