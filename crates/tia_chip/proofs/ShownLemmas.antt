-- The playfield at each pixel of a line that goes on from where the TIA is.
use Rattle.std.proofs.Common.{◌≡◌, ◌∙◌, ℕ, zero, suc, ◌+◌, ◌-◌, ◌%◌, ◌<◌, ◌≤◌, ◌==◌, ◌&&◌, ◌||◌, not, Bool, false, arith, refl, ap, sym, subst, if◌then◌else◌, Option, Some, None}
use Rattle.std.proofs.lemmas.Bool.{cond-false, cond-true, cond_both, eqb-true, le-ltb, lt-ltb, ne_eqb}
use Rattle.std.proofs.lemmas.Bool.Decides.{nat_tests}
use Rattle.std.specs.Fn.{iterate}
use Rattle.std.specs.Prelude.{nat_le, nat_lt}
use Rattle.tia_chip.proofs.CalmPairs.{and-true}
use Rattle.tia_chip.proofs.LineLemmas.{begun, line, line-alike, line-on, lit-pixel, taken-collisions}
use Rattle.tia_chip.specs.Bits.{has_bit}
use Rattle.tia_chip.specs.Calm.{IsCalmInPicture}
use Rattle.tia_chip.specs.Clock.{after_clock, at_pixel}
use Rattle.tia_chip.specs.Clocks.{sink_after_clocks, with_pixel}
use Rattle.tia_chip.specs.Colour.{pixel_of}
use Rattle.tia_chip.specs.Objects.{lit_objects}
use Rattle.tia_chip.specs.Playfield.{playfield_bit, playfield_index}
use Rattle.tia_chip.specs.Private.Lines.{AreLit, IsLatched, collisions_with, line_at, line_of, line_past, lit_at, shown_mirrored, shown_playfield, unlatched_line}
use Rattle.tia_chip.specs.declared.line.Line.{Line}
use Rattle.tia_chip.specs.declared.lit_pixels.LitPixels.{LitPixels}
use Rattle.tia_chip.specs.declared.objects.Objects.{Objects}
use Rattle.tia_chip.specs.declared.pixel.Pixel.{Pixel}
use Rattle.tia_chip.specs.declared.state.TiaState.{TiaState}

-- where a group of four begins, and where it goes on
first-mirrored : (first x : ℕ) (d m : Bool) → x ≡ first → ((if nat_le first 80 && nat_le 80 x then d else m) && (x == first || nat_lt x 157)) ≡ (if x == 80 then d else m)
first-mirrored first x d m e = grind (arith, nat_tests)

next-mirrored : (first x : ℕ) (d m : Bool) → first ≤ x → x + 1 < 160 → (x + 1) % 4 ≡ 0
    → ((if nat_le first 80 && nat_le 80 (x + 1) then d else m) && (x + 1 == first || nat_lt (x + 1) 157))
    ≡ (if x + 1 == 80 then d else ((if nat_le first 80 && nat_le 80 x then d else m) && (x == first || nat_lt x 157)) && nat_lt x 156)
next-mirrored first x d m l s e = grind (arith, nat_tests)

kept-mirrored : (first x : ℕ) (d m : Bool) → first ≤ x → 1 ≤ (x + 1) % 4
    → ((if nat_le first 80 && nat_le 80 (x + 1) then d else m) && (x + 1 == first || nat_lt (x + 1) 157))
    ≡ (((if nat_le first 80 && nat_le 80 x then d else m) && (x == first || nat_lt x 157)) && nat_lt x 156)
kept-mirrored first x d m l e = grind (arith, nat_tests)

taken-shown : (t : TiaState) (first x : ℕ) → x % 4 ≡ 0 → first ≤ x
    → shown_playfield t first x ≡ playfield_bit t.pf0 t.pf1 t.pf2 (playfield_index (shown_mirrored t first x) x)
taken-shown t first x e l =
    let s : x - x % 4 ≡ x = omega arith in
    ap (λ (start : ℕ). if nat_lt start first then t.playfield else playfield_bit t.pf0 t.pf1 t.pf2 (playfield_index (shown_mirrored t first start) start)) s
    ∙ cond-false (nat_lt x first) _ _ (le-ltb x first l)

kept-shown : (t : TiaState) (first x : ℕ) → 1 ≤ (x + 1) % 4 → shown_playfield t first (x + 1) ≡ shown_playfield t first x
kept-shown t first x e =
    let s : x + 1 - (x + 1) % 4 ≡ x - x % 4 = omega arith in
    ap (λ (start : ℕ). if nat_lt start first then t.playfield else playfield_bit t.pf0 t.pf1 t.pf2 (playfield_index (shown_mirrored t first start) start)) s

first-shown : (t : TiaState) (first : ℕ) → 1 ≤ first % 4 → shown_playfield t first first ≡ t.playfield
first-shown t first e = cond-true (nat_lt (first - first % 4) first) _ _ (lt-ltb (first - first % 4) first (omega arith))

abbrev IsShown : TiaState → ℕ → Line → Type 0
IsShown t x l = (l.playfield ≡ shown_playfield t (t.clock - 68) x) × (l.mirrored ≡ shown_mirrored t (t.clock - 68) x)

shown-first : (t : TiaState) (x : ℕ) → x ≡ t.clock - 68 → IsShown t x (line_at t x (line_of t))
shown-first t x e =
    let first : ℕ = t.clock - 68 in
    let mirrored = first-mirrored first x (has_bit t.ctrlpf 0) t.mirrored e in
    cond_both (x % 4 == 0) _ _ (IsShown t x)
    (λ f.
    let z : x % 4 ≡ 0 = eqb-true (x % 4) 0 f in (
      ap (λ (m : Bool). playfield_bit t.pf0 t.pf1 t.pf2 (playfield_index m x)) (sym mirrored) ∙ sym (taken-shown t first x z (omega arith)),
      sym mirrored,
    ))
    (λ f.
    let z : 1 ≤ x % 4 = grind (arith, nat_tests) in
    let other : (x == 80) ≡ false = ne_eqb x 80 (λ g. omega arith) in (
      sym (ap (λ (y : ℕ). shown_playfield t first y) e ∙ first-shown t first (omega arith)),
      sym (mirrored ∙ cond-false (x == 80) _ _ other),
    ))

shown-next : (t : TiaState) (x : ℕ) (lit : Objects) (l : Line) → t.clock - 68 ≤ x → x + 1 < 160 → IsShown t x l → IsShown t (x + 1) (line_at t (x + 1) (line_past t x lit l))
shown-next t x lit l from to h =
    let first : ℕ = t.clock - 68 in
    let d = has_bit t.ctrlpf 0 in
    cond_both ((x + 1) % 4 == 0) _ _ (IsShown t (x + 1))
    (λ f.
    let z : (x + 1) % 4 ≡ 0 = eqb-true ((x + 1) % 4) 0 f in
    let mirrored : (if x + 1 == 80 then d else l.mirrored && nat_lt x 156) ≡ shown_mirrored t first (x + 1) =
    ap (λ (m : Bool). if x + 1 == 80 then d else m && nat_lt x 156) h.1 ∙ sym (next-mirrored first x d t.mirrored from to z)
    in (
      ap (λ (m : Bool). playfield_bit t.pf0 t.pf1 t.pf2 (playfield_index m (x + 1))) mirrored ∙ sym (taken-shown t first (x + 1) z (omega arith)),
      mirrored,
    ))
    (λ f.
    let z : 1 ≤ (x + 1) % 4 = grind (arith, nat_tests) in (
      ap (λ (b : Bool). l.playfield && not b) f ∙ (and-true l.playfield ∙ (h.0 ∙ sym (kept-shown t first x z))),
      ap (λ (m : Bool). m && nat_lt x 156) h.1 ∙ sym (kept-mirrored first x d t.mirrored from z),
    ))

pub begun-shown : (n : ℕ) (t : TiaState) → IsCalmInPicture t → t.clock + n < 228 → IsShown t (t.clock - 68 + n) (begun t n)
begun-shown zero t h m = shown-first t (t.clock - 68 + 0) (omega arith)
begun-shown (suc n) t h m =
    let x : ℕ = t.clock - 68 + n in
    let less : t.clock + n < 228 = omega arith in
    let lit = lit_objects (at_pixel (iterate after_clock n t)) in
    let picture = h.clock in
    let next : t.clock - 68 + suc n ≡ x + 1 = omega arith in
    let e : begun t (suc n) ≡ line_at t (x + 1) (line_past t x lit (begun t n)) =
    ap (λ (y : ℕ). line_at t y (line_of (iterate after_clock (suc n) t))) next ∙ ap (λ (l : Line). line_at t (x + 1) l) (line-on t n h less)
    in
    subst (λ (y : ℕ). IsShown t y (begun t (suc n))) (sym next)
    (subst (λ (l : Line). IsShown t (x + 1) l) (sym e) (shown-next t x lit (begun t n) (omega arith) (omega arith) (begun-shown n t h less)))

-- ---- where no pixel latches a pair
abbrev pub LatchNothing : ℕ → TiaState → Type 0
LatchNothing n t = (k : ℕ) → k < n → IsLatched t (lit_objects (at_pixel (iterate after_clock k t)))

-- by words of what is lit
abbrev AllLatched : LitPixels → ℕ → TiaState → Type 0
AllLatched lit n t = (k : ℕ) → k < n → IsLatched t (lit_at lit k (shown_playfield t (t.clock - 68) (t.clock - 68 + k)))

pub words-latch_nothing : (n : ℕ) (t : TiaState) (lit : LitPixels) → IsCalmInPicture t → t.clock + n ≤ 228 → AreLit lit n t → AllLatched lit n t → LatchNothing n t
words-latch_nothing n t lit h m a all = λ k l.
    let less : t.clock + k < 228 = omega arith in
    ap (λ (o : Objects). collisions_with t o t.collisions) (sym (lit-pixel t k n lit h less l a) ∙ ap (λ (b : Bool). lit_at lit k b) (begun-shown k t h less).0) ∙ all k l

collisions-kept : (n : ℕ) (t : TiaState) → IsCalmInPicture t → t.clock + n ≤ 228 → LatchNothing n t → (iterate after_clock n t).collisions ≡ t.collisions
collisions-kept zero t h m all = refl
collisions-kept (suc n) t h m all =
    let less : t.clock + n < 228 = omega arith in
    let o = lit_objects (at_pixel (iterate after_clock n t)) in
    ap (λ (b : Line). b.collisions) (line-on t n h less)
    ∙ (ap (collisions_with t o) (taken-collisions t (t.clock - 68 + n) (line_of (iterate after_clock n t)) ∙ collisions-kept n t h (omega arith) (λ k l. all k (omega arith)))
    ∙ all n (omega arith))

unlatched-line : (n : ℕ) (t : TiaState) → IsCalmInPicture t → t.clock + suc n ≤ 228 → LatchNothing (suc n) t → unlatched_line (suc n) t ≡ line_of (iterate after_clock (suc n) t)
unlatched-line n t h m all =
    let less : t.clock + n < 228 = omega arith in
    let x : ℕ = t.clock - 68 + n in
    let last : t.clock - 68 + (suc n - 1) ≡ x = omega arith in
    let first : ℕ = t.clock - 68 in
    let shown = begun-shown n t h less in
    let e = line-on t n h less in
    ap (λ (y : ℕ). line (shown_playfield t first y && not ((y + 1) % 4 == 0)) (shown_mirrored t first y && nat_lt y 156) t.collisions) last
    ∙ line-alike (shown_playfield t first x && not ((x + 1) % 4 == 0)) (iterate after_clock (suc n) t).playfield
    (shown_mirrored t first x && nat_lt x 156) (iterate after_clock (suc n) t).mirrored t.collisions (iterate after_clock (suc n) t).collisions
    (ap (λ (b : Bool). b && not ((x + 1) % 4 == 0)) (sym shown.0) ∙ sym (ap (λ (l : Line). l.playfield) e))
    (ap (λ (b : Bool). b && nat_lt x 156) (sym shown.1) ∙ sym (ap (λ (l : Line). l.mirrored) e))
    (sym (collisions-kept (suc n) t h (omega arith) all))

pub unlatched-some : (n : ℕ) (t : TiaState) → 1 ≤ n → IsCalmInPicture t → t.clock + n ≤ 228 → LatchNothing n t → unlatched_line n t ≡ line_of (iterate after_clock n t)
unlatched-some zero t s h m all = absurd (omega arith)
unlatched-some (suc n) t s h m all = unlatched-line n t h m all

-- ---- a sink that keeps nothing
pixel-unkept : {S : Type 0} (drawn : S → ℕ → ℕ → ℕ → S) (sink : S) (p : Option Pixel) → ((line x colour : ℕ) → drawn sink line x colour ≡ sink) → with_pixel drawn sink p ≡ sink
pixel-unkept drawn sink None h = refl
pixel-unkept drawn sink (Some p) h = h p.line p.x p.colour

pub sink-unkept : {S : Type 0} (drawn : S → ℕ → ℕ → ℕ → S) (sink : S) (n : ℕ) (t : TiaState) → ((line x colour : ℕ) → drawn sink line x colour ≡ sink)
    → sink_after_clocks drawn sink n t ≡ sink
sink-unkept drawn sink zero t h = refl
sink-unkept drawn sink (suc n) t h =
    ap (λ s. sink_after_clocks drawn s n (after_clock t)) (pixel-unkept drawn sink (pixel_of (at_pixel t)) h) ∙ sink-unkept drawn sink n (after_clock t) h
