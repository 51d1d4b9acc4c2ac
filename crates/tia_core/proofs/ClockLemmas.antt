-- Clocks one after another, and what stays over them.
use Rattle.std.proofs.Common.{◌≡◌, ℕ, zero, suc, ◌+◌, ◌-◌, ◌*◌, ◌/◌, ◌%◌, ◌<◌, ◌≤◌}
use Rattle.std.proofs.Common.{Bool, true, List, [], ◌∷◌, ◌++◌}
use Rattle.std.proofs.Common.{append_assoc, bit_or, refl, sym, ap, ◌∙◌, arith}
use Rattle.std.specs.Fn.{iterate}
use Rattle.std.proofs.lemmas.Bool.Decides.{nat_tests}
use Rattle.std.proofs.lemmas.Nat.Bits.{bit_at_or, bit_at-lt}
use Rattle.tia_core.specs.Bits.{has_bit}
use Rattle.tia_core.specs.declared.fields.TiaFields.{TiaFields}
use Rattle.tia_core.specs.TiaState.{TiaState}
use Rattle.tia_core.specs.Clock.{Pixel, sink_after_pixels, pixels, pixels_of, after_clock}
use Rattle.tia_core.specs.Beam.{beam_of}
use Rattle.tia_core.specs.Private.StretchPixels.{pixel_at}
use Rattle.tia_core.specs.Private.Unchanged.{after_beam}
use Rattle.tia_core.specs.Registers.{register_of}
use Rattle.tia_core.specs.Write.{fields_after, effect_after, effect_of, tia_after_write}
use Rattle.tia_core.specs.declared.effect.Effect.TheVariants.{Nothing}

-- ---- in two parts
pub iterate-add : {A : Type 0} (f : A → A) (m n : ℕ) (a : A) → iterate f (m + n) a ≡ iterate f n (iterate f m a)
iterate-add f zero n a = let e : zero + n ≡ n = omega arith in rw e
iterate-add f (suc m) n a = let e : suc m + n ≡ suc (m + n) = omega arith in rw e (iterate-add f m n (f a))

-- pixels in two parts are drawn one part after the other
pub painted-append : {S : Type 0} (drawn : S → ℕ → ℕ → ℕ → S) (sink : S) (ps qs : List Pixel)
    → sink_after_pixels drawn sink (ps ++ qs) ≡ sink_after_pixels drawn (sink_after_pixels drawn sink ps) qs
painted-append drawn sink [] qs = refl
painted-append drawn sink (p ∷ ps) qs = painted-append drawn (drawn sink p.line p.x p.colour) ps qs

pub pixels-add : (m n : ℕ) (s : TiaState) → pixels (m + n) s ≡ pixels m s ++ pixels n (iterate after_clock m s)
pixels-add zero n s = let e : zero + n ≡ n = omega arith in rw e
pixels-add (suc m) n s =
    let e : suc m + n ≡ suc (m + n) = omega arith in
    rw e (ap (λ (ps : List Pixel). pixels_of s ++ ps) (pixels-add m n (after_clock s))
    ∙ sym (append_assoc (pixels_of s) (pixels m (after_clock s))
    (pixels n (iterate after_clock m (after_clock s)))))

pub painted-add : {S : Type 0} (drawn : S → ℕ → ℕ → ℕ → S) (sink : S) (m n : ℕ) (s : TiaState)
    → sink_after_pixels drawn sink (pixels (m + n) s) ≡ sink_after_pixels drawn (sink_after_pixels drawn sink (pixels m s)) (pixels n (iterate after_clock m s))
painted-add drawn sink m n s = rw (pixels-add m n s) (painted-append drawn sink (pixels m s) (pixels n (iterate after_clock m s)))

-- some clocks, and then the rest of n
pub clocks-in_two : {S : Type 0} (drawn : S → ℕ → ℕ → ℕ → S) (sink : S) (m n : ℕ) (s : TiaState) → m ≤ n → let after = iterate after_clock m s in
    (iterate after_clock (n - m) after ≡ iterate after_clock n s)
    × (sink_after_pixels drawn (sink_after_pixels drawn sink (pixels m s)) (pixels (n - m) after) ≡ sink_after_pixels drawn sink (pixels n s))
clocks-in_two drawn sink m n s le =
    let e : m + (n - m) ≡ n = omega arith in
    (rw e at (sym (iterate-add after_clock m (n - m) s)), rw e at (sym (painted-add drawn sink m (n - m) s)))

-- ---- one clock
-- it puts nothing in the blank, else one pixel
pub pixels_of-blank : (s : TiaState) → s.fields.clock < 68 → pixels_of s ≡ []
pixels_of-blank s h = grind (arith, nat_tests)

pub pixels_of-visible : (s : TiaState) → 68 ≤ s.fields.clock → pixels_of s ≡ pixel_at s.fields s.line (s.fields.clock - 68) ∷ []
pixels_of-visible s h = grind (arith, nat_tests)

-- ---- the beam
pub clocked-clock : (s : TiaState) → s.fields.clock < 228 → (after_clock s).fields.clock ≡ (s.fields.clock + 1) % 228
clocked-clock s h = grind (arith, nat_tests)

pub clocked-line : (s : TiaState) → s.fields.clock < 228 → s.line < 65536 → (after_clock s).line ≡ (s.line + (s.fields.clock + 1) / 228) % 65536
clocked-line s h k = grind (arith, nat_tests)

pub iterate-clocked-clock : (n : ℕ) (s : TiaState) → s.fields.clock < 228 → (iterate after_clock n s).fields.clock ≡ (s.fields.clock + n) % 228
iterate-clocked-clock zero s h = omega arith
iterate-clocked-clock (suc n) s h =
    let e = clocked-clock s h in
    iterate-clocked-clock n (after_clock s) (omega arith) ∙ omega arith

pub iterate-clocked-line : (n : ℕ) (s : TiaState) → s.fields.clock < 228 → s.line < 65536
    → (iterate after_clock n s).line ≡ (s.line + (s.fields.clock + n) / 228) % 65536
iterate-clocked-line zero s h k = omega arith
iterate-clocked-line (suc n) s h k =
    let e = clocked-clock s h in
    let f = clocked-line s h k in
    iterate-clocked-line n (after_clock s) (omega arith) (omega arith) ∙ omega arith

-- while lines aren't counted round, the beam goes on by one place each clock
pub iterate-clocked-beam : (n : ℕ) (s : TiaState) → s.fields.clock < 228 → beam_of s + n < 228 * 65536 → beam_of (iterate after_clock n s) ≡ beam_of s + n
iterate-clocked-beam n s h k =
    let e = iterate-clocked-clock n s h in
    let f = iterate-clocked-line n s h (omega arith) in
    omega arith

-- ---- what clocks leave alone: all but the collisions, the clock, the comb and the line
abbrev pub with_beam_of : TiaState → TiaState → TiaState
with_beam_of after s = record s {
  fields = after_beam s.fields after.fields.collisions after.fields.clock after.fields.comb;
  line = after.line;
}

clocked-others : (s : TiaState) → s.fields.clock < 228 → after_clock s ≡ with_beam_of (after_clock s) s
clocked-others s h = grind arith

pub iterate-clocked-others : (n : ℕ) (s : TiaState) → s.fields.clock < 228
    → iterate after_clock n s ≡ with_beam_of (iterate after_clock n s) s
iterate-clocked-others zero s h = refl
iterate-clocked-others (suc n) s h =
    let e = clocked-clock s h in
    let after : TiaState = iterate after_clock n (after_clock s) in
    iterate-clocked-others n (after_clock s) (omega arith)
    ∙ ap (with_beam_of after) (clocked-others s h)

pub iterate-clocked-fields : (n : ℕ) (s : TiaState) → s.fields.clock < 228
    → let f = (iterate after_clock n s).fields in f ≡ after_beam s.fields f.collisions f.clock f.comb
iterate-clocked-fields n s h = ap (λ (z : TiaState). z.fields) (iterate-clocked-others n s h)

-- ---- writes that change nothing wherever the beam is change nothing after clocks
pub written-after-clocks : (n : ℕ) (s : TiaState) (number v : ℕ) → s.fields.clock < 228
    → ((fire0 fire1 : Bool) (collisions clock comb : ℕ)
    → fields_after (after_beam s.fields collisions clock comb) fire0 fire1
    (register_of number) v ≡ after_beam s.fields collisions clock comb)
    → tia_after_write (iterate after_clock n s) number v ≡ iterate after_clock n s
unfolding tia_after_write
written-after-clocks n s number v h kept =
    let t : TiaState = iterate after_clock n s in
    let e = iterate-clocked-fields n s h in
    ap (λ (f : TiaFields). record t { fields = f })
    (ap (λ (f : TiaFields). fields_after f t.fire0 t.fire1 (register_of number) v) e
    ∙ kept t.fire0 t.fire1 t.fields.collisions t.fields.clock t.fields.comb ∙ sym e)

pub effect-after-clocks : (n : ℕ) (s : TiaState) (number v : ℕ) → s.fields.clock < 228
    → ((collisions clock comb : ℕ) → effect_after (after_beam s.fields collisions clock comb) (register_of number) v ≡ Nothing)
    → effect_of (iterate after_clock n s) number v ≡ Nothing
effect-after-clocks n s number v h quiet =
    let f : TiaFields = (iterate after_clock n s).fields in
    ap (λ (z : TiaFields). effect_after z (register_of number) v) (iterate-clocked-fields n s h) ∙ quiet f.collisions f.clock f.comb

-- ---- a collision bit that is set stays set
or-keeps : (a b k : ℕ) → has_bit a k ≡ true → has_bit (bit_or a b) k ≡ true
or-keeps a b k h = grind (arith, nat_tests, bit_at_or a b k, bit_at-lt b k)

clocked-keeps : (s : TiaState) (k : ℕ) → has_bit s.fields.collisions k ≡ true → has_bit (after_clock s).fields.collisions k ≡ true
clocked-keeps s k h = grind (arith, or-keeps)

pub iterate-clocked-keeps : (n : ℕ) (s : TiaState) (k : ℕ) → has_bit s.fields.collisions k ≡ true → has_bit (iterate after_clock n s).fields.collisions k ≡ true
iterate-clocked-keeps zero s k h = h
iterate-clocked-keeps (suc n) s k h = iterate-clocked-keeps n (after_clock s) k (clocked-keeps s k h)
