-- Clocks of the picture: the playfield, the collisions and the pixels.
use Rattle.std.proofs.Common.{◌≡◌, ◌∙◌, ℕ, zero, suc, ◌+◌, ◌-◌, ◌%◌, ◌<◌, ◌≤◌, ◌==◌, ◌&&◌, ◌||◌, not, min, Bool, false, arith, refl, ap, sym, if◌then◌else◌}
use Rattle.std.proofs.Common.{Some}
use Rattle.std.proofs.lemmas.Bool.{and_right, cond-false, cond-true, cond_both, eq-eqb, eqb-true, le-ltb, not_from_true, or_from}
use Rattle.std.proofs.lemmas.Bool.Decides.{nat_tests}
use Rattle.std.specs.Fn.{iterate}
use Rattle.std.specs.Prelude.{nat_le, nat_lt}
use Rattle.tia_chip.proofs.CalmClocks.{clocks-calm, clocks-line, clocks-picture, clocks-pixel, pixel-steps, shown}
use Rattle.tia_chip.proofs.CalmPairs.{clock-pairs}
use Rattle.tia_chip.proofs.ClocksLemmas.{iterate-add, sink-add}
use Rattle.tia_chip.specs.Bits.{has_bit}
use Rattle.tia_chip.specs.Blank.{is_in_blank}
use Rattle.tia_chip.specs.Calm.{IsCalmInPicture, after_line, after_picture, after_steps, at_pixel_after, with_rest_of}
use Rattle.tia_chip.specs.Clock.{after_clock, at_next_clock, at_pixel, with_next_clock}
use Rattle.tia_chip.specs.Clocks.{sink_after_clocks, with_pixel}
use Rattle.tia_chip.specs.Collision.{latched}
use Rattle.tia_chip.specs.Colour.{colour_at, front_colour, is_black, layers_of, pixel_of}
use Rattle.tia_chip.specs.Objects.{lit_objects}
use Rattle.tia_chip.specs.Playfield.{playfield_at, with_playfield}
use Rattle.tia_chip.specs.Private.Lines.{AreLit, collisions_with, line_at, line_of, line_past, lit_at, gone_on, with_line}
use Rattle.tia_chip.specs.declared.line.Line.{Line}
use Rattle.tia_chip.specs.declared.lit_pixels.LitPixels.{LitPixels}
use Rattle.tia_chip.specs.declared.objects.Objects.{Objects}
use Rattle.tia_chip.specs.declared.pixel.Pixel.{Pixel}
use Rattle.tia_chip.specs.declared.state.TiaState.{TiaState}

-- ---- one clock
abbrev x-of : TiaState → ℕ
x-of t = t.clock - 68

-- the playfield takes its bit
taken : (t : TiaState) → IsCalmInPicture t → line_of (with_playfield t) ≡ line_at t (x-of t) (line_of t)
taken t h =
    ap line_of (cond-false (nat_lt t.clock 68) _ _ (le-ltb t.clock 68 h.clock) ∙ cond-false (nat_le 225 t.clock && t.longer) _ _ (and_right (nat_le 225 t.clock) t.longer h.longer))
    ∙ (ap (λ (beam : ℕ). line_of (playfield_at t (beam - 68))) h.calm.beam
    ∙ cond_both (x-of t % 4 == 0) _ _ (λ (u : TiaState). line_of u ≡ line_at t (x-of t) (line_of t))
    (λ e. sym (cond-true (x-of t % 4 == 0) _ _ e)) (λ e. sym (cond-false (x-of t % 4 == 0) _ _ e)))

pub taken-collisions : (t : TiaState) (x : ℕ) (l : Line) → (line_at t x l).collisions ≡ l.collisions
taken-collisions t x l = cond_both (x % 4 == 0) _ _ (λ (m : Line). m.collisions ≡ l.collisions) (λ e. refl) (λ e. refl)

abbrev clocked-line : ℕ → TiaState → Line
clocked-line x y = record { playfield = y.playfield && not ((x + 1) % 4 == 0); mirrored = y.mirrored && nat_lt x 156; collisions = y.collisions }

abbrev pub line : Bool → Bool → ℕ → Line
line playfield mirrored collisions = record { playfield = playfield; mirrored = mirrored; collisions = collisions }

pub line-alike : (p p' m m' : Bool) (c c' : ℕ) → p ≡ p' → m ≡ m' → c ≡ c' → line p m c ≡ line p' m' c'
line-alike p p' m m' c c' i j k = cc

at-next : (y : TiaState) → 68 ≤ y.clock → y.clock < 228 → y.beam ≡ y.clock → line_of (with_next_clock y) ≡ clocked-line (x-of y) y
at-next y f l b =
    cond_both (y.clock == 227) _ _ (λ (z : TiaState). line_of z ≡ clocked-line (x-of y) y)
    (λ e.
    let c : y.clock ≡ 227 = eqb-true y.clock 227 e in
    line-alike false (y.playfield && not ((x-of y + 1) % 4 == 0)) false (y.mirrored && nat_lt (x-of y) 156) y.collisions y.collisions
    (sym (and_right y.playfield (not ((x-of y + 1) % 4 == 0)) (not_from_true ((x-of y + 1) % 4 == 0) (eq-eqb ((x-of y + 1) % 4) 0 (omega arith)))))
    (sym (and_right y.mirrored (nat_lt (x-of y) 156) (le-ltb (x-of y) 156 (omega arith)))) refl)
    (λ e.
    let c : y.clock < 227 = grind (arith, nat_tests) in
    let n = at_next_clock y in
    let same : ((min (y.beam + 1) 227 % 4) == 0) ≡ ((x-of y + 1) % 4 == 0) = let s : min (y.beam + 1) 227 % 4 ≡ (x-of y + 1) % 4 = omega arith in ap (λ (k : ℕ). k == 0) s in
    let less : nat_lt (min (y.beam + 1) 227) 225 ≡ nat_lt (x-of y) 156 = grind (arith, nat_tests) in
    cond_both (is_in_blank n) _ _ (λ (z : TiaState). line_of z ≡ clocked-line (x-of y) y)
    (λ g. line-alike (y.playfield && not ((min (y.beam + 1) 227 % 4) == 0)) (y.playfield && not ((x-of y + 1) % 4 == 0)) (y.mirrored && nat_lt (min (y.beam + 1) 227) 225) (y.mirrored && nat_lt (x-of y) 156) y.collisions y.collisions
    (ap (λ (t : Bool). y.playfield && not t) same) (ap (λ (t : Bool). y.mirrored && t) less) refl)
    (λ g. line-alike (y.playfield && not ((min (y.beam + 1) 227 % 4) == 0)) (y.playfield && not ((x-of y + 1) % 4 == 0)) (y.mirrored && nat_lt (min (y.beam + 1) 227) 225) (y.mirrored && nat_lt (x-of y) 156) y.collisions y.collisions
    (ap (λ (t : Bool). y.playfield && not t) same) (ap (λ (t : Bool). y.mirrored && t) less) refl))

line-clock : (t : TiaState) → IsCalmInPicture t → t.clock < 228
    → line_of (after_clock t) ≡ line_past t (x-of t) (lit_objects (at_pixel t)) (line_at t (x-of t) (line_of t))
unfolding after_clock
line-clock t h l =
    let p = record (after_steps 1 t) { playfield = (with_playfield t).playfield; mirrored = (with_playfield t).mirrored } in
    let e : line_of (after_clock t) ≡ clocked-line (x-of t) (latched p) =
    ap (λ (q : TiaState). line_of (with_next_clock (latched q))) (pixel-steps t h) ∙ at-next (latched p) h.clock l h.calm.beam
    in
    let took = taken t h in
    line-alike (after_clock t).playfield ((line_at t (x-of t) (line_of t)).playfield && not ((x-of t + 1) % 4 == 0))
    (after_clock t).mirrored ((line_at t (x-of t) (line_of t)).mirrored && nat_lt (x-of t) 156)
    (after_clock t).collisions (collisions_with t (lit_objects (at_pixel t)) (line_at t (x-of t) (line_of t)).collisions)
    (ap (λ (m : Line). m.playfield) e ∙ ap (λ (m : Line). m.playfield && not ((x-of t + 1) % 4 == 0)) took)
    (ap (λ (m : Line). m.mirrored) e ∙ ap (λ (m : Line). m.mirrored && nat_lt (x-of t) 156) took)
    (clock-pairs t h ∙ sym (ap (collisions_with t (lit_objects (at_pixel t))) (taken-collisions t (x-of t) (line_of t))))

-- ---- the clock after n others
pub iterate-last : {A : Type 0} (f : A → A) (n : ℕ) (a : A) → iterate f (suc n) a ≡ f (iterate f n a)
iterate-last f n a = let e : n + 1 ≡ suc n = omega arith in rw e at (iterate-add f n 1 a)

abbrev on : ℕ → TiaState → TiaState
on n t = iterate after_clock n t

-- what stays is what it was
same-taken : (t : TiaState) (n x : ℕ) (l : Line) → IsCalmInPicture t → t.clock + n < 228 → line_at (on n t) x l ≡ line_at t x l
same-taken t zero x l h m = refl
same-taken t (suc n) x l h m = ap (λ (u : TiaState). line_at u x l) (clocks-picture t n h m)

same-collisions : (t : TiaState) (n c : ℕ) (o : Objects) → IsCalmInPicture t → t.clock + n < 228 → collisions_with (on n t) o c ≡ collisions_with t o c
same-collisions t zero c o h m = refl
same-collisions t (suc n) c o h m = ap (λ (u : TiaState). collisions_with u o c) (clocks-picture t n h m)

same-clock : (t : TiaState) (n : ℕ) → IsCalmInPicture t → t.clock + n < 228 → (on n t).clock ≡ t.clock + n
same-clock t zero h m = omega arith
same-clock t (suc n) h m = ap (λ (u : TiaState). u.clock) (clocks-picture t n h m)

x-on : (t : TiaState) (n : ℕ) → IsCalmInPicture t → t.clock + n < 228 → x-of (on n t) ≡ x-of t + n
x-on t n h m = let e = same-clock t n h m in let f = h.clock in omega arith

-- the line as pixel n begins
abbrev pub begun : TiaState → ℕ → Line
begun t n = line_at t (t.clock - 68 + n) (line_of (iterate after_clock n t))

begun-is : (t : TiaState) (n : ℕ) → IsCalmInPicture t → t.clock + n < 228 → line_at (on n t) (x-of (on n t)) (line_of (on n t)) ≡ begun t n
begun-is t n h m =
    same-taken t n (x-of (on n t)) (line_of (on n t)) h m ∙ ap (λ (x : ℕ). line_at t x (line_of (on n t))) (x-on t n h m)

pub line-on : (t : TiaState) (n : ℕ) → IsCalmInPicture t → t.clock + n < 228
    → line_of (iterate after_clock (suc n) t) ≡ line_past t (t.clock - 68 + n) (lit_objects (at_pixel (iterate after_clock n t))) (begun t n)
line-on t n h m =
    let u = on n t in
    let calm = clocks-calm t n h m in
    let lit = lit_objects (at_pixel u) in
    let small : u.clock < 228 = omega (arith, same-clock t n h m) in
    ap line_of (iterate-last after_clock n t)
    ∙ (line-clock u calm small
    ∙ (ap (λ (x : ℕ). line_past u x lit (line_at u (x-of u) (line_of u))) (x-on t n h m)
    ∙ (ap (λ (b : Line). line_past u (x-of t + n) lit b) (begun-is t n h m)
    ∙ line-alike ((begun t n).playfield && not ((x-of t + n + 1) % 4 == 0)) ((begun t n).playfield && not ((x-of t + n + 1) % 4 == 0))
    ((begun t n).mirrored && nat_lt (x-of t + n) 156) ((begun t n).mirrored && nat_lt (x-of t + n) 156)
    (collisions_with u lit (begun t n).collisions) (collisions_with t lit (begun t n).collisions) refl refl (same-collisions t n (begun t n).collisions lit h m))))

-- what is lit at its pixel
pub lit-on : (t : TiaState) (n : ℕ) → IsCalmInPicture t → t.clock + n < 228
    → lit_objects (at_pixel (iterate after_clock n t)) ≡ lit_objects (record (after_steps (suc n) t) { playfield = (begun t n).playfield })
lit-on t n h m =
    let u = on n t in
    let calm = clocks-calm t n h m in
    let field : (at_pixel u).playfield ≡ (begun t n).playfield =
    ap (λ (x : TiaState). x.playfield) (pixel-steps u calm) ∙ (ap (λ (l : Line). l.playfield) (taken u calm) ∙ ap (λ (l : Line). l.playfield) (begun-is t n h m))
    in
    ap lit_objects (clocks-pixel t n h m) ∙ ap (λ (b : Bool). lit_objects (record (after_steps (suc n) t) { playfield = b })) field

pub lit-pixel : (t : TiaState) (n count : ℕ) (lit : LitPixels) → IsCalmInPicture t → t.clock + n < 228 → n < count → AreLit lit count t
    → lit_at lit n (begun t n).playfield ≡ lit_objects (at_pixel (iterate after_clock n t))
lit-pixel t n count lit h m l a = a n (begun t n).playfield l ∙ sym (lit-on t n h m)

-- its colour
abbrev dot : ℕ → ℕ → ℕ → Pixel
dot line x colour = record { line = line; x = x; colour = colour }

pub pixel-on : (t : TiaState) (n : ℕ) → IsCalmInPicture t → t.clock + n < 228
    → pixel_of (at_pixel (iterate after_clock n t))
    ≡ Some (record {
      line = t.line;
      x = t.clock - 68 + n;
      colour = if is_black t then 0 else front_colour (layers_of t (lit_objects (at_pixel (iterate after_clock n t))) (t.clock - 68 + n)) t.colubk;
    })
pixel-on t n h m =
    let r = at_pixel (on n t) in
    let v = with_rest_of r (at_pixel_after n t) in
    let e : r ≡ v = clocks-pixel t n h m in
    let place : t.clock + n - 68 ≡ x-of t + n = let f = h.clock in omega arith in
    let left : nat_lt (t.clock + n) 68 ≡ false = le-ltb (t.clock + n) 68 (let f = h.clock in omega arith) in
    let blank : is_in_blank v ≡ is_in_blank t = or_from (nat_lt (t.clock + n) 68) t.longer left h.longer ∙ sym (shown t h) in
    ap pixel_of e
    ∙ (cond-false (nat_lt (t.clock + n) 68) _ _ left
    ∙ (ap (λ (x : ℕ). Some (dot t.line x (colour_at v x))) place
    ∙ (ap (λ (b : Bool). Some (dot t.line (x-of t + n) (if b || has_bit t.vblank 1 || has_bit t.vsync 1 then 0 else front_colour (layers_of t (lit_objects v) (x-of t + n)) t.colubk))) blank
    ∙ ap (λ (q : TiaState). Some (dot t.line (x-of t + n) (if is_black t then 0 else front_colour (layers_of t (lit_objects q) (x-of t + n)) t.colubk))) (sym e))))

pub sink-last : {S : Type 0} (drawn : S → ℕ → ℕ → ℕ → S) (sink : S) (n : ℕ) (t : TiaState)
    → sink_after_clocks drawn sink (suc n) t ≡ with_pixel drawn (sink_after_clocks drawn sink n t) (pixel_of (at_pixel (iterate after_clock n t)))
sink-last drawn sink n t = let e : n + 1 ≡ suc n = omega arith in rw e at (sink-add drawn sink n 1 t)

-- ---- after all of them
pub changed-off : (t : TiaState) → (after_clock t).changed ≡ false
unfolding after_clock
changed-off t =
    let y = latched (at_pixel t) in
    cond_both (y.clock == 227) _ _ (λ (z : TiaState). z.changed ≡ false) (λ e. refl)
    (λ e. cond_both (is_in_blank (at_next_clock y)) _ _ (λ (z : TiaState). z.changed ≡ false) (λ f. refl) (λ f. refl))

pub changed-after : (n : ℕ) (t : TiaState) → (iterate after_clock (suc n) t).changed ≡ false
changed-after n t = ap (λ (u : TiaState). u.changed) (iterate-last after_clock n t) ∙ changed-off (iterate after_clock n t)

alike-rest : (base rest : TiaState) (l : Line) → l ≡ line_of rest → rest.changed ≡ false → with_line l base ≡ with_rest_of rest base
alike-rest base rest l e f = ap (λ (m : Line). with_line m base) e ∙ ap (λ (b : Bool). record (with_line (line_of rest) base) { changed = b }) (sym f)

pub picture-after : (n : ℕ) (t : TiaState) (l : Line) → IsCalmInPicture t → t.clock + suc n ≤ 228 → l ≡ line_of (iterate after_clock (suc n) t)
    → gone_on (suc n) (with_line l (after_steps (suc n) t)) ≡ iterate after_clock (suc n) t
picture-after n t l h m e =
    let rest = iterate after_clock (suc n) t in
    cond_both (t.clock + suc n == 228) _ _ (λ (u : TiaState). u ≡ rest)
    (λ f. alike-rest (after_line (suc n) t) rest l e (changed-after n t) ∙ sym (clocks-line t n h (eqb-true (t.clock + suc n) 228 f)))
    (λ f. let less : t.clock + suc n < 228 = grind (arith, nat_tests) in
    alike-rest (after_picture (suc n) t) rest l e (changed-after n t) ∙ sym (clocks-picture t n h less))

pub picture-some : (n : ℕ) (t : TiaState) (l : Line) → 1 ≤ n → IsCalmInPicture t → t.clock + n ≤ 228 → l ≡ line_of (iterate after_clock n t)
    → gone_on n (with_line l (after_steps n t)) ≡ iterate after_clock n t
picture-some zero t l s h m e = absurd (omega arith)
picture-some (suc n) t l s h m e = picture-after n t l h m e
