-- Clocks of the blank that do nothing.
use Rattle.std.proofs.Common.{if◌then◌else◌, ◌≡◌, ◌∙◌, ℕ, zero, suc, ◌+◌, ◌%◌, ◌<◌, ◌≤◌, ◌==◌, not, Bool, true, false, arith, refl, ap, sym}
use Rattle.std.proofs.lemmas.Bool.{and_left, cond-true, cond_both, eqb-true, lt-ltb}
use Rattle.std.proofs.lemmas.Bool.Decides.{nat_tests}
use Rattle.std.specs.Fn.{iterate}
use Rattle.std.specs.Prelude.{nat_lt}
use Rattle.tia_chip.proofs.CalmBlank.{calm-next, clock-latches_none, clocks-blank, clocks-blank_end, end-next, pixel-left}
use Rattle.tia_chip.proofs.LineLemmas.{changed-off}
use Rattle.tia_chip.specs.Blank.{is_in_blank}
use Rattle.tia_chip.specs.Calm.{IsCalmInBlank, after_blank, at_blank_end, blank_end, with_rest_of}
use Rattle.tia_chip.specs.Clock.{after_clock, at_next_clock, at_pixel, with_next_clock, without_seen}
use Rattle.tia_chip.specs.Clocks.{sink_after_clocks, with_pixel}
use Rattle.tia_chip.specs.Collision.{latched}
use Rattle.tia_chip.specs.Colour.{pixel_of}
use Rattle.tia_chip.specs.Private.Lines.{IsAtRestInBlank}
use Rattle.tia_chip.specs.declared.state.TiaState.{TiaState}

calm-of : (t : TiaState) → IsAtRestInBlank t → IsCalmInBlank t
calm-of t h = record { calm = h.calm; start = h.start }

end-late : (t : TiaState) → 68 ≤ blank_end t
end-late t = cond_both t.longer 76 68 (λ n. 68 ≤ n) (λ e. omega arith) (λ e. omega arith)

-- what a clock keeps
record IsRest (t u : TiaState) : Type 0 where
  pub playfield : u.playfield ≡ t.playfield
  pub mirrored : u.mirrored ≡ t.mirrored
  pub collisions : u.collisions ≡ t.collisions
  pub changed : u.changed ≡ t.changed

field-off : (y : TiaState) → y.playfield ≡ false → (with_next_clock y).playfield ≡ false
field-off y e =
    cond_both (y.clock == 227) _ _ (λ (z : TiaState). z.playfield ≡ false) (λ f. refl)
    (λ f. cond_both (is_in_blank (at_next_clock y)) _ _ (λ (z : TiaState). z.playfield ≡ false)
    (λ g. and_left y.playfield (not ((at_next_clock y).beam % 4 == 0)) e) (λ g. and_left y.playfield (not ((at_next_clock y).beam % 4 == 0)) e))

mirror-off : (y : TiaState) → y.mirrored ≡ false → (with_next_clock y).mirrored ≡ false
mirror-off y e =
    cond_both (y.clock == 227) _ _ (λ (z : TiaState). z.mirrored ≡ false) (λ f. refl)
    (λ f. cond_both (is_in_blank (at_next_clock y)) _ _ (λ (z : TiaState). z.mirrored ≡ false)
    (λ g. and_left y.mirrored (nat_lt (at_next_clock y).beam 225) e) (λ g. and_left y.mirrored (nat_lt (at_next_clock y).beam 225) e))

rest-clock : (t : TiaState) → IsAtRestInBlank t → t.clock < 68 → IsRest t (after_clock t)
unfolding after_clock
rest-clock t h l =
    let p = pixel-left t (calm-of t h) l in
    let late = end-late t in
    record {
      playfield = ap (λ (x : TiaState). (with_next_clock (latched x)).playfield) p ∙ (field-off (latched t) h.playfield ∙ sym h.playfield);
      mirrored = ap (λ (x : TiaState). (with_next_clock (latched x)).mirrored) p ∙ (mirror-off (latched t) h.mirrored ∙ sym h.mirrored);
      collisions = clock-latches_none t (calm-of t h) (omega arith) h.changed;
      changed = changed-off t ∙ sym h.changed;
    }

rest-next : (t : TiaState) → IsAtRestInBlank t → t.clock + 1 < 68 → IsAtRestInBlank (after_clock t)
rest-next t h l =
    let late = end-late t in
    let next = calm-next t (calm-of t h) (omega arith) in
    let kept = rest-clock t h (omega arith) in
    record {
      calm = next.calm;
      start = next.start;
      changed = kept.changed ∙ h.changed;
      playfield = kept.playfield ∙ h.playfield;
      mirrored = kept.mirrored ∙ h.mirrored;
    }

clock-next : (t : TiaState) → IsAtRestInBlank t → t.clock + 1 < 68 → (after_clock t).clock ≡ t.clock + 1
clock-next t h l = let late = end-late t in (end-next t (calm-of t h) (omega arith)).1

rests : (n : ℕ) (t : TiaState) → IsAtRestInBlank t → t.clock + suc n ≤ 68 → IsRest t (iterate after_clock (suc n) t)
rests zero t h l = rest-clock t h (omega arith)
rests (suc n) t h l =
    let one = rest-clock t h (omega arith) in
    let others = rests n (after_clock t) (rest-next t h (omega arith)) (omega (arith, clock-next t h (omega arith))) in
    record {
      playfield = others.playfield ∙ one.playfield;
      mirrored = others.mirrored ∙ one.mirrored;
      collisions = others.collisions ∙ one.collisions;
      changed = others.changed ∙ one.changed;
    }

abbrev rest : TiaState → Bool → Bool → ℕ → Bool → TiaState
rest base playfield mirrored collisions changed = record base { playfield = playfield; mirrored = mirrored; collisions = collisions; changed = changed }

rest-alike : (base : TiaState) (p p' m m' : Bool) (c c' : ℕ) (d d' : Bool) → p ≡ p' → m ≡ m' → c ≡ c' → d ≡ d' → rest base p m c d ≡ rest base p' m' c' d'
rest-alike base p p' m m' c c' d d' i j k l = cc

same-rest : (t u base : TiaState) → IsRest t u → with_rest_of u base ≡ with_rest_of t base
same-rest t u base h =
    rest-alike base u.playfield t.playfield u.mirrored t.mirrored u.collisions t.collisions u.changed t.changed h.playfield h.mirrored h.collisions h.changed

short : (longer : Bool) (n : ℕ) → n ≤ 68 → (n == (if longer then 76 else 68)) ≡ true → longer ≡ false
short true n l e = let f : n ≡ 76 = eqb-true n 76 e in absurd (omega arith)
short false n l e = refl

before-end : (n m : ℕ) → n ≤ m → (n == m) ≡ false → n < m
before-end n m l e = grind (arith, nat_tests)

pub blank-leaves : (n : ℕ) (t : TiaState) → IsAtRestInBlank t → t.clock + suc n ≤ 68 → (t.clock + suc n == blank_end t) ≡ true
    → without_seen (record t { clock = t.clock + suc n; beam = t.clock + suc n }) ≡ iterate after_clock (suc n) t
blank-leaves n t h l e =
    let rest = iterate after_clock (suc n) t in
    sym (clocks-blank_end t n (calm-of t h) (eqb-true (t.clock + suc n) (blank_end t) e)
    ∙ (same-rest t rest (at_blank_end (suc n) t) (rests n t h l)
    ∙ ap (λ (longer : Bool). record (without_seen t) { clock = t.clock + suc n; beam = t.clock + suc n; longer = longer }) (sym (short t.longer (t.clock + suc n) l e))))

pub blank-stays : (n : ℕ) (t : TiaState) → IsAtRestInBlank t → t.clock + suc n ≤ 68 → (t.clock + suc n == blank_end t) ≡ false
    → record t { clock = t.clock + suc n; beam = t.clock + suc n } ≡ iterate after_clock (suc n) t
blank-stays n t h l e =
    let rest = iterate after_clock (suc n) t in
    let late = end-late t in
    let less : t.clock + suc n < blank_end t = before-end (t.clock + suc n) (blank_end t) (omega arith) e in
    sym (clocks-blank t (suc n) (calm-of t h) less ∙ same-rest t rest (after_blank (suc n) t) (rests n t h l))

-- no pixel is put
no-pixel : {S : Type 0} (drawn : S → ℕ → ℕ → ℕ → S) (sink : S) (t : TiaState) → IsAtRestInBlank t → t.clock < 68 → with_pixel drawn sink (pixel_of (at_pixel t)) ≡ sink
no-pixel drawn sink t h l =
    let left : nat_lt t.beam 68 ≡ true = lt-ltb t.beam 68 (omega (arith, h.calm.beam)) in
    ap (λ (x : TiaState). with_pixel drawn sink (pixel_of x)) (pixel-left t (calm-of t h) l)
    ∙ ap (with_pixel drawn sink) (cond-true (nat_lt t.beam 68) _ _ left)

pub blank-sink : {S : Type 0} (drawn : S → ℕ → ℕ → ℕ → S) (sink : S) (n : ℕ) (t : TiaState) → IsAtRestInBlank t → t.clock + suc n ≤ 68
    → sink_after_clocks drawn sink (suc n) t ≡ sink
blank-sink drawn sink zero t h l = no-pixel drawn sink t h (omega arith)
blank-sink drawn sink (suc n) t h l =
    ap (λ s. sink_after_clocks drawn s (suc n) (after_clock t)) (no-pixel drawn sink t h (omega arith))
    ∙ blank-sink drawn sink n (after_clock t) (rest-next t h (omega arith)) (omega (arith, clock-next t h (omega arith)))

-- the same of some clocks
pub leaves-some : (n : ℕ) (t : TiaState) → 1 ≤ n → IsAtRestInBlank t → t.clock + n ≤ 68 → (t.clock + n == blank_end t) ≡ true
    → without_seen (record t { clock = t.clock + n; beam = t.clock + n }) ≡ iterate after_clock n t
leaves-some zero t s h l e = absurd (omega arith)
leaves-some (suc n) t s h l e = blank-leaves n t h l e

pub stays-some : (n : ℕ) (t : TiaState) → 1 ≤ n → IsAtRestInBlank t → t.clock + n ≤ 68 → (t.clock + n == blank_end t) ≡ false
    → record t { clock = t.clock + n; beam = t.clock + n } ≡ iterate after_clock n t
stays-some zero t s h l e = absurd (omega arith)
stays-some (suc n) t s h l e = blank-stays n t h l e

pub sink-some : {S : Type 0} (drawn : S → ℕ → ℕ → ℕ → S) (sink : S) (n : ℕ) (t : TiaState) → 1 ≤ n → IsAtRestInBlank t → t.clock + n ≤ 68
    → sink_after_clocks drawn sink n t ≡ sink
sink-some drawn sink zero t s h l = absurd (omega arith)
sink-some drawn sink (suc n) t s h l = blank-sink drawn sink n t h l
