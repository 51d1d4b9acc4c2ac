-- Which pixels clocks put: one for each visible clock, in order.
use Rattle.std.proofs.Common.{◌≡◌, ℕ, zero, suc, ◌+◌, ◌-◌, ◌*◌, ◌%◌, ◌<◌, inl, inr}
use Rattle.std.proofs.Common.{nat_le, true, false, List, [], ◌∷◌, ◌++◌, map, refl, sym, ap}
use Rattle.std.proofs.Common.{◌∙◌, arith}
use Rattle.std.specs.List.{All, filter, range_with_len}
use Rattle.std.specs.List.Sorted.{IsStrictlyIncreasing}
use Rattle.std.proofs.lemmas.Bool.{cases_lt}
use Rattle.std.proofs.lemmas.Bool.Decides.{nat_tests}
use Rattle.std.proofs.lemmas.List.{map-append}
use Rattle.std.proofs.lemmas.List.Elements.{All-append, All-cons, All-nil}
use Rattle.std.proofs.lemmas.List.Elements.{filter-append}
use Rattle.std.proofs.lemmas.List.FromFn.{length-range_with_len, get_or-range_with_len}
use Rattle.std.proofs.lemmas.List.Kept.{IsStrictlyIncreasing-filter}
use Rattle.tia_core.specs.Beam.{beam_of, beam_of_pixel, is_visible}
use Rattle.tia_core.specs.Clock.{Pixel, pixels, pixels_of, after_clock}
use Rattle.tia_core.specs.TiaState.{TiaState}
use Rattle.tia_core.proofs.ClockLemmas.{clocked-clock, iterate-clocked-beam}
use Rattle.tia_core.proofs.ClockLemmas.{pixels_of-blank, pixels_of-visible}

-- ---- each pixel is in its line
abbrev InLine : Pixel → Type 0
InLine p = p.x < 160

pixels_of-in_line : (s : TiaState) → s.fields.clock < 228 → All InLine (pixels_of s)
pixels_of-in_line s h = elim (cases_lt s.fields.clock 68) [
  | inl lt ↦ rw (pixels_of-blank s lt) (All-nil InLine)
  | inr le ↦ rw (pixels_of-visible s le) (All-cons InLine _ [] (omega arith) (All-nil InLine))
]

pub pixels-in_line : (n : ℕ) (s : TiaState) → s.fields.clock < 228 → All (λ p. p.x < 160) (pixels n s)
pixels-in_line zero s h = All-nil InLine
pixels-in_line (suc n) s h =
    let e = clocked-clock s h in
    All-append InLine (pixels_of s) (pixels n (after_clock s)) (pixels_of-in_line s h) (pixels-in_line n (after_clock s) (omega arith))

-- ---- the places of the pixels are those of the visible clocks
places_of : (s : TiaState) → s.fields.clock < 228 → map beam_of_pixel (pixels_of s) ≡ filter is_visible (beam_of s ∷ [])
places_of s h = elim (cases_lt s.fields.clock 68) [
  | inl lt ↦ (let no : nat_le 68 ((228 * s.line + s.fields.clock) % 228) ≡ false = grind (arith, nat_tests) in rw (pixels_of-blank s lt, no) refl)
  | inr le ↦ (let yes : nat_le 68 ((228 * s.line + s.fields.clock) % 228) ≡ true = grind (arith, nat_tests) in
      let e : 68 + (s.fields.clock - 68) ≡ s.fields.clock = omega arith in
      rw (pixels_of-visible s le, yes, e) refl)
]

pub pixels-places : (n : ℕ) (s : TiaState) → s.fields.clock < 228 → beam_of s + n < 228 * 65536
    → map beam_of_pixel (pixels n s) ≡ filter is_visible (range_with_len (beam_of s) n)
pixels-places zero s h k = refl
pixels-places (suc n) s h k =
    let e = clocked-clock s h in
    let f : beam_of (after_clock s) ≡ beam_of s + 1 = iterate-clocked-beam 1 s h (omega arith) in
    let rest = rw f at (pixels-places n (after_clock s) (omega arith) (omega arith)) in
    map-append beam_of_pixel (pixels_of s) (pixels n (after_clock s))
    ∙ ap (λ (places : List ℕ). places ++ map beam_of_pixel (pixels n (after_clock s))) (places_of s h)
    ∙ ap (λ (places : List ℕ). filter is_visible (beam_of s ∷ []) ++ places) rest
    ∙ sym (filter-append is_visible (beam_of s ∷ []) (range_with_len (beam_of s + 1) n))

-- in strictly rising order
range-rises : (a n : ℕ) → IsStrictlyIncreasing (range_with_len a n)
range-rises a n k h =
    let e = length-range_with_len a n in
    rw (get_or-range_with_len a n k 0 (omega arith), get_or-range_with_len a n (k + 1) 0 (omega arith)) (omega arith)

pub pixels-rise : (n : ℕ) (s : TiaState) → s.fields.clock < 228 → beam_of s + n < 228 * 65536 → IsStrictlyIncreasing (map beam_of_pixel (pixels n s))
pixels-rise n s h k = rw (pixels-places n s h k) (IsStrictlyIncreasing-filter is_visible (range_with_len (beam_of s) n) (range-rises (beam_of s) n))
