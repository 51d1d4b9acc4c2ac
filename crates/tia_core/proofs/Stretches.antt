-- Clocks over a stretch of a line are its pixels and pairs.
use Rattle.std.proofs.Common.{◌≡◌, ℕ, zero, suc, ◌+◌, ◌-◌, ◌%◌, ◌<◌, ◌≤◌, ◌==◌, inl, inr, false}
use Rattle.std.proofs.Common.{true, if◌then◌else◌, List, [], ◌∷◌, ◌++◌, bit_or, refl, sym, ap, ◌∙◌}
use Rattle.std.proofs.Common.{arith}
use Rattle.std.specs.Fn.{iterate}
use Rattle.std.specs.Int.Bits.{or_zero_r}
use Rattle.std.proofs.lemmas.Bool.{cases_lt}
use Rattle.std.proofs.lemmas.Bool.Decides.{nat_tests}
use Rattle.tia_core.specs.Clock.{Pixel, after_clock, pixels, sink_after_pixels}
use Rattle.tia_core.specs.Collision.{pairs_of}
use Rattle.tia_core.specs.Colour.{colour_at}
use Rattle.tia_core.specs.Objects.{objects_at}
use Rattle.tia_core.specs.Private.StretchPixels.{pixel_at, stretch_pixels}
use Rattle.tia_core.specs.TiaState.{TiaState}
use Rattle.tia_core.specs.declared.fields.TiaFields.{TiaFields}
use Rattle.tia_core.proofs.ClockLemmas.{pixels_of-blank}
use Rattle.tia_core.proofs.ClockLemmas.{pixels_of-visible}
use Rattle.tia_core.proofs.PairLemmas.{latched, latched-first}

-- ---- the picture
-- where the beam is among the pixels of its line
abbrev place : TiaState → ℕ
place s = s.fields.clock - 68

-- a TIA after k clocks within a line, with these collision bits
abbrev swept : TiaState → ℕ → ℕ → TiaState
swept s k c =
    if s.fields.clock + k == 228
    then record s { fields = record s.fields { collisions = c; clock = 0; comb = 0 }; line = (s.line + 1) % 65536 }
    else record s { fields = record s.fields { collisions = c; clock = s.fields.clock + k } }

abbrev Sweeps : ℕ → TiaState → Type 0
Sweeps k s = (iterate after_clock k s ≡ swept s k (latched s.fields s.fields.collisions (place s) k))
    × (pixels k s ≡ stretch_pixels s.fields s.line (place s) k)

-- the same TIA after one clock that does not end its line
abbrev next : TiaState → TiaState
next s = record s {
  fields = record s.fields { collisions = bit_or s.fields.collisions (pairs_of (objects_at s.fields (place s))); clock = s.fields.clock + 1 };
}

clocked-next : (s : TiaState) → 68 ≤ s.fields.clock → s.fields.clock < 227 → after_clock s ≡ next s
clocked-next s h k = grind (arith, nat_tests)

-- pixels and pairs don't depend on the beam's place or on the latches
placed : (t : TiaFields) (b h line c x k : ℕ) → let u = record t { collisions = b; clock = h } in
    (latched u c x k ≡ latched t c x k) × (stretch_pixels u line x k ≡ stretch_pixels t line x k)
unfolding objects_at colour_at
placed t b h line c x k = (refl, refl)

sweep-last : (k : ℕ) (s : TiaState) → 68 ≤ s.fields.clock → s.fields.clock ≡ 227 → s.fields.clock + suc k ≤ 228 → Sweeps (suc k) s
sweep-last zero s lo h fits =
    let pairs : latched s.fields s.fields.collisions (place s) 1 ≡ bit_or s.fields.collisions (pairs_of (objects_at s.fields (place s))) =
    latched-first s.fields s.fields.collisions (place s) 0 ∙ or_zero_r _ in
    (rw pairs (grind (arith, nat_tests)), ap (λ (ps : List Pixel). ps ++ []) (pixels_of-visible s lo))
sweep-last (suc k) s lo h fits = absurd (omega arith)

sweep-more : (k : ℕ) (s : TiaState) → 68 ≤ s.fields.clock → s.fields.clock < 227 → Sweeps k (next s) → Sweeps (suc k) s
sweep-more k s lo lt ih =
    let c : ℕ = bit_or s.fields.collisions (pairs_of (objects_at s.fields (place s))) in
    let same = placed s.fields c (s.fields.clock + 1) s.line c (place s + 1) k in
    let beam : s.fields.clock + 1 - 68 ≡ place s + 1 = omega arith in
    let clock : s.fields.clock + 1 + k ≡ s.fields.clock + suc k = omega arith in (
      ap (iterate after_clock k) (clocked-next s lo lt) ∙ ih.0 ∙ rw (beam, clock, same.0, latched-first s.fields s.fields.collisions (place s) k) refl,
      ap (λ (ps : List Pixel). ps ++ pixels k (after_clock s)) (pixels_of-visible s lo)
          ∙ ap (◌∷◌ (pixel_at s.fields s.line (place s))) (ap (pixels k) (clocked-next s lo lt) ∙ ih.1 ∙ rw beam same.1),
    )

-- k clocks within a line
sweep : (k : ℕ) (s : TiaState) → 68 ≤ s.fields.clock → s.fields.clock < 228 → s.fields.clock + k ≤ 228 → Sweeps k s
sweep zero s lo hi fits =
    let none : latched s.fields s.fields.collisions (place s) 0 ≡ s.fields.collisions = or_zero_r _ in
    let clock : s.fields.clock + 0 ≡ s.fields.clock = omega arith in
    let no : (s.fields.clock == 228) ≡ false = grind (arith, nat_tests) in
    (rw (none, clock, no) refl, refl)
sweep (suc k) s lo hi fits = elim (cases_lt s.fields.clock 227) [
  | inl h ↦ sweep-more k s lo h (sweep k (next s) (omega arith) (omega arith) (omega arith))
  | inr h ↦ sweep-last k s lo (omega arith) fits
]

-- the end of a stretch, as the code finds it: `c` are the latches with the pairs of the stretch
module _ (s : TiaState) (k c : ℕ) (lo : 68 ≤ s.fields.clock) (hi : s.fields.clock < 228) (fits : s.fields.clock + k ≤ 228)
    (latches : c ≡ latched s.fields s.fields.collisions (place s) (place s + k - place s)) where
  count_is : place s + k - place s ≡ k
  count_is = omega arith

  swept-is : swept s k c ≡ iterate after_clock k s
  swept-is = rw count_is at (ap (swept s k) latches) ∙ sym (sweep k s lo hi fits).0

  pub stretch-wraps : place s + k ≡ 160
      → record s { fields = record s.fields { collisions = c; clock = 0; comb = 0 }; line = (s.line + 1) % 65536 } ≡ iterate after_clock k s
  stretch-wraps h = let yes : (s.fields.clock + k == 228) ≡ true = grind (arith, nat_tests) in rw yes at swept-is

  pub stretch-stays : (place s + k ≡ 160 → ⊥)
      → record s { fields = record s.fields { collisions = c; clock = s.fields.clock + k } } ≡ iterate after_clock k s
  stretch-stays h = let no : (s.fields.clock + k == 228) ≡ false = grind (arith, nat_tests) in rw no at swept-is

pub stretch-sink : {S : Type 0} (drawn : S → ℕ → ℕ → ℕ → S) (sink : S) (s : TiaState) (k : ℕ)
    → 68 ≤ s.fields.clock → s.fields.clock < 228 → s.fields.clock + k ≤ 228
    → sink_after_pixels drawn sink (stretch_pixels s.fields s.line (place s) (place s + k - place s)) ≡ sink_after_pixels drawn sink (pixels k s)
stretch-sink drawn sink s k lo hi fits =
    let e : place s + k - place s ≡ k = omega arith in
    rw (e, (sweep k s lo hi fits).1) refl

-- ---- the blank
-- clocks of the blank change the beam's place alone
clocked-blank : (s : TiaState) → s.fields.clock < 68 → after_clock s ≡ record s { fields = record s.fields { clock = s.fields.clock + 1 } }
clocked-blank s h = grind (arith, nat_tests)

pub blank-stretch : (k : ℕ) (s : TiaState) → s.fields.clock + k ≤ 68
    → (iterate after_clock k s ≡ record s { fields = record s.fields { clock = s.fields.clock + k } }) × (pixels k s ≡ [])
blank-stretch zero s h = let e : s.fields.clock + 0 ≡ s.fields.clock = omega arith in (rw e refl, refl)
blank-stretch (suc k) s h =
    let e : s.fields.clock + 1 + k ≡ s.fields.clock + suc k = omega arith in
    let lt : s.fields.clock < 68 = omega arith in
    let rest = blank-stretch k (record s { fields = record s.fields { clock = s.fields.clock + 1 } }) (omega arith) in (
      ap (iterate after_clock k) (clocked-blank s lt) ∙ rest.0 ∙ rw e refl,
      ap (λ (ps : List Pixel). ps ++ pixels k (after_clock s)) (pixels_of-blank s lt) ∙ ap (pixels k) (clocked-blank s lt) ∙ rest.1,
    )

-- a sink that keeps nothing of a pixel keeps nothing of many
pub painted-nothing : {S : Type 0} (drawn : S → ℕ → ℕ → ℕ → S) (sink : S) (ps : List Pixel)
    → ((line x colour : ℕ) → drawn sink line x colour ≡ sink) → sink_after_pixels drawn sink ps ≡ sink
painted-nothing drawn sink [] h = refl
painted-nothing drawn sink (p ∷ ps) h = rw (h p.line p.x p.colour) (painted-nothing drawn sink ps h)
