-- Clocks of the blank in which no write is on its way and nothing moves.
use Rattle.std.proofs.Common.{◌≡◌, ◌∙◌, ℕ, zero, suc, ◌+◌, ◌%◌, ◌<◌, ◌==◌, ◌&&◌, ◌||◌, ◌⊎◌, inl, inr, not, min, Bool, true, false, arith, refl, ap, sym, subst, if◌then◌else◌}
use Rattle.std.proofs.lemmas.Bool.{and_right, cases_Bool, cond-false, cond-true, cond_both, eq-eqb, le-ltb, lt-ltb, ne_eqb, not_from_false, not_from_true, or_from, or_left, or_right}
use Rattle.std.specs.Fn.{iterate}
use Rattle.std.specs.Prelude.{nat_lt}
use Rattle.tia_chip.proofs.CalmClocks.{no-pulse, no-writes, only-field}
use Rattle.tia_chip.proofs.QuietAges.{alike-three}
use Rattle.tia_chip.specs.Bits.{has_bit}
use Rattle.tia_chip.specs.Blank.{is_in_blank}
use Rattle.tia_chip.specs.Calm.{IsCalmInBlank, IsFreeInBlank, after_blank, at_blank_end, blank_end, with_rest_of}
use Rattle.tia_chip.specs.Clock.{after_clock, at_line_start, at_next_clock, at_pixel, stepped, with_next_clock, without_seen}
use Rattle.tia_chip.specs.Collision.{is_latching, latched}
use Rattle.tia_chip.specs.Motion.{after_pulse, any_moves, pulsed, pulses_on}
use Rattle.tia_chip.specs.Playfield.{with_playfield}
use Rattle.tia_chip.specs.declared.state.TiaState.{TiaState}

record Stays (clock : ℕ) (longer : Bool) : Type 0 where
  pub now : (nat_lt clock 68 || longer) ≡ true
  pub next : (nat_lt (clock + 1) 68 || (longer && not (clock == 75))) ≡ true
  pub same : (longer && not (clock == 75)) ≡ longer

stays : (clock : ℕ) (longer : Bool) → clock + 1 < (if longer then 76 else 68) → Stays clock longer
stays clock true h =
    let other : not (clock == 75) ≡ true = not_from_false (clock == 75) (ne_eqb clock 75 (λ e. omega arith)) in
    record { now = or_right (nat_lt clock 68) true refl; next = or_right (nat_lt (clock + 1) 68) (not (clock == 75)) other; same = other }
stays clock false h =
    record { now = or_left (nat_lt clock 68) false (lt-ltb clock 68 (omega arith)); next = or_left (nat_lt (clock + 1) 68) false (lt-ltb (clock + 1) 68 (omega arith)); same = refl }

record Ends (clock : ℕ) (longer : Bool) : Type 0 where
  pub now : (nat_lt clock 68 || longer) ≡ true
  pub next : (nat_lt (clock + 1) 68 || (longer && not (clock == 75))) ≡ false
  pub over : (longer && not (clock == 75)) ≡ false
  pub early : clock < 76

ends : (clock : ℕ) (longer : Bool) → clock + 1 ≡ (if longer then 76 else 68) → Ends clock longer
ends clock true h =
    let last : not (clock == 75) ≡ false = not_from_true (clock == 75) (eq-eqb clock 75 (omega arith)) in
    record { now = or_right (nat_lt clock 68) true refl; next = or_from (nat_lt (clock + 1) 68) (not (clock == 75)) (le-ltb (clock + 1) 68 (omega arith)) last; over = last; early = omega arith }
ends clock false h =
    record { now = or_left (nat_lt clock 68) false (lt-ltb clock 68 (omega arith)); next = or_from (nat_lt (clock + 1) 68) false (le-ltb (clock + 1) 68 (omega arith)) refl; over = refl; early = omega arith }

small-end : (longer : Bool) (clock : ℕ) → clock < (if longer then 76 else 68) → clock < 76
small-end true clock h = h
small-end false clock h = omega arith

-- as a line begins
unlong : (clock : ℕ) (longer : Bool) → (not longer || not (clock == 0)) ≡ true → (clock == 0) ≡ true → false ≡ longer
unlong clock true h e = sym (not_from_true (clock == 0) e) ∙ h
unlong clock false h e = refl

no-start : (t : TiaState) → (not t.longer || not (t.clock == 0)) ≡ true → at_line_start t ≡ t
no-start t h =
    cond_both (t.clock == 0) _ _ (λ x. x ≡ t) (λ e. ap (λ (longer : Bool). record t { longer = longer }) (unlong t.clock t.longer h e)) (λ e. refl)

with-field : TiaState → TiaState
with-field t = record t { playfield = (with_playfield t).playfield; mirrored = (with_playfield t).mirrored }

-- the pixel, where u is the TIA once the clock has pulsed
pixel-blank : (t u : TiaState) → IsFreeInBlank t → pulsed t ≡ u → is_in_blank u ≡ true → at_pixel t ≡ with-field u
unfolding at_pixel with-field
pixel-blank t u h p e =
    ap (λ (x : TiaState). stepped (with_playfield (pulsed (at_line_start x)))) (no-writes t h.waiting h.hmove)
    ∙ (ap (λ (x : TiaState). stepped (with_playfield (pulsed x))) (no-start t h.start)
    ∙ (ap (λ (x : TiaState). stepped (with_playfield x)) p
    ∙ (ap (λ (x : TiaState). stepped x) (only-field u) ∙ cond-true (is_in_blank u) _ _ e)))

cleared : TiaState → TiaState
cleared t = record t { playfield = t.playfield && not (t.beam % 4 == 0); mirrored = t.mirrored && nat_lt t.beam 225 }

pub pulse-stays : (t u : TiaState) → IsFreeInBlank t → pulsed t ≡ u → u.beam ≡ u.clock → u.clock + 1 < blank_end u
    → after_clock t ≡ with_rest_of (after_clock t) (after_blank 1 u)
unfolding after_clock with-field cleared
pulse-stays t u h p b l =
    let s = stays u.clock u.longer l in
    let y = latched (with-field u) in
    let z = cleared (at_next_clock y) in
    let small = small-end u.longer (u.clock + 1) l in
    let e : after_clock t ≡ z =
    ap (λ (q : TiaState). with_next_clock (latched q)) (pixel-blank t u h p s.now)
    ∙ (cond-false (y.clock == 227) _ _ (ne_eqb y.clock 227 (λ e. omega arith)) ∙ cond-true (is_in_blank (at_next_clock y)) _ _ s.next)
    in
    e ∙ alike-three (λ (beam : ℕ) (longer : Bool) (rest : TiaState). with_rest_of rest (record u { clock = u.clock + 1; beam = beam; longer = longer }))
    (min (u.beam + 1) 227) (u.clock + 1) (u.longer && not (u.clock == 75)) u.longer z (after_clock t) (omega (arith, b, small)) s.same (sym e)

pub pulse-ends : (t u : TiaState) → IsFreeInBlank t → pulsed t ≡ u → u.beam ≡ u.clock → u.clock + 1 ≡ blank_end u
    → after_clock t ≡ with_rest_of (after_clock t) (at_blank_end 1 u)
unfolding after_clock with-field cleared
pulse-ends t u h p b l =
    let s = ends u.clock u.longer l in
    let y = latched (with-field u) in
    let z = without_seen (cleared (at_next_clock y)) in
    let small = s.early in
    let e : after_clock t ≡ z =
    ap (λ (q : TiaState). with_next_clock (latched q)) (pixel-blank t u h p s.now)
    ∙ (cond-false (y.clock == 227) _ _ (ne_eqb y.clock 227 (λ e. omega arith)) ∙ cond-false (is_in_blank (at_next_clock y)) _ _ s.next)
    in
    e ∙ alike-three (λ (beam : ℕ) (longer : Bool) (rest : TiaState). with_rest_of rest (record (without_seen u) { clock = u.clock + 1; beam = beam; longer = longer }))
    (min (u.beam + 1) 227) (u.clock + 1) (u.longer && not (u.clock == 75)) false z (after_clock t) (omega (arith, b, small)) s.over (sym e)

-- whether it pulses or not
pub pulse-or-not : (t : TiaState) → (((t.clock % 4 == 0) && any_moves t) ≡ true) ⊎ (((t.clock % 4 == 0) && any_moves t) ≡ false) → (P : TiaState → Type 0)
    → (pulsed t ≡ after_pulse t → P (after_pulse t)) → (pulsed t ≡ t → P t) → P (pulsed t)
pulse-or-not t (inl e) P f g = let p : pulsed t ≡ after_pulse t = cond-true ((t.clock % 4 == 0) && any_moves t) _ _ e in subst P (sym p) (f p)
pulse-or-not t (inr e) P f g = let p : pulsed t ≡ t = cond-false ((t.clock % 4 == 0) && any_moves t) _ _ e in subst P (sym p) (g p)

pub clock-blank : (t : TiaState) → IsFreeInBlank t → t.clock + 1 < blank_end t → after_clock t ≡ with_rest_of (after_clock t) (after_blank 1 (pulsed t))
clock-blank t h l =
    pulse-or-not t (cases_Bool ((t.clock % 4 == 0) && any_moves t)) (λ (u : TiaState). after_clock t ≡ with_rest_of (after_clock t) (after_blank 1 u))
    (λ p. pulse-stays t (after_pulse t) h p h.beam l) (λ p. pulse-stays t t h p h.beam l)

pub clock-blank_end : (t : TiaState) → IsFreeInBlank t → t.clock + 1 ≡ blank_end t → after_clock t ≡ with_rest_of (after_clock t) (at_blank_end 1 (pulsed t))
clock-blank_end t h l =
    pulse-or-not t (cases_Bool ((t.clock % 4 == 0) && any_moves t)) (λ (u : TiaState). after_clock t ≡ with_rest_of (after_clock t) (at_blank_end 1 u))
    (λ p. pulse-ends t (after_pulse t) h p h.beam l) (λ p. pulse-ends t t h p h.beam l)

free : (t : TiaState) → IsCalmInBlank t → IsFreeInBlank t
free t h = record { waiting = h.calm.waiting; hmove = h.calm.hmove; beam = h.calm.beam; start = h.start }

blank-clock : (t : TiaState) → IsCalmInBlank t → t.clock + 1 < blank_end t → after_clock t ≡ with_rest_of (after_clock t) (after_blank 1 t)
blank-clock t h l = pulse-stays t t (free t h) (no-pulse t h.calm.moves) h.calm.beam l

end-clock : (t : TiaState) → IsCalmInBlank t → t.clock + 1 ≡ blank_end t → after_clock t ≡ with_rest_of (after_clock t) (at_blank_end 1 t)
end-clock t h l = pulse-ends t t (free t h) (no-pulse t h.calm.moves) h.calm.beam l

-- n clocks
calm-later : (t rest : TiaState) → IsCalmInBlank t → IsCalmInBlank (with_rest_of rest (after_blank 1 t))
calm-later t rest h =
    record {
      calm = record { waiting = h.calm.waiting; hmove = h.calm.hmove; moves = h.calm.moves; beam = refl };
      start = or_right (not t.longer) (not (t.clock + 1 == 0)) (not_from_false (t.clock + 1 == 0) (ne_eqb (t.clock + 1) 0 (λ e. omega arith)));
    }

pub calm-next : (t : TiaState) → IsCalmInBlank t → t.clock + 1 < blank_end t → IsCalmInBlank (after_clock t)
calm-next t h l = subst (λ x. IsCalmInBlank x) (sym (blank-clock t h l)) (calm-later t (after_clock t) h)

pub end-next : (t : TiaState) → IsCalmInBlank t → t.clock + 1 < blank_end t → (blank_end (after_clock t) ≡ blank_end t) × ((after_clock t).clock ≡ t.clock + 1)
end-next t h l = (ap (λ (x : TiaState). blank_end x) (blank-clock t h l), ap (λ (x : TiaState). x.clock) (blank-clock t h l))

later : (t : TiaState) (rest after : TiaState) (n : ℕ) → with_rest_of after (after_blank n (with_rest_of rest (after_blank 1 t))) ≡ with_rest_of after (after_blank (suc n) t)
later t rest after n = let e : t.clock + 1 + n ≡ t.clock + suc n = omega arith in ap (λ (clock : ℕ). with_rest_of after (record t { clock = clock; beam = clock })) e

later-end : (t : TiaState) (rest after : TiaState) (n : ℕ) → with_rest_of after (at_blank_end n (with_rest_of rest (after_blank 1 t))) ≡ with_rest_of after (at_blank_end (suc n) t)
later-end t rest after n = let e : t.clock + 1 + n ≡ t.clock + suc n = omega arith in ap (λ (clock : ℕ). with_rest_of after (record (without_seen t) { clock = clock; beam = clock; longer = false })) e

pub clocks-blank : (t : TiaState) (n : ℕ) → IsCalmInBlank t → t.clock + n < blank_end t
    → iterate after_clock n t ≡ with_rest_of (iterate after_clock n t) (after_blank n t)
clocks-blank t zero h l =
    alike-three (λ (clock beam : ℕ) (none : Bool). record t { clock = clock; beam = beam }) t.clock (t.clock + 0) t.beam (t.clock + 0) false false (omega arith) (omega (arith, h.calm.beam)) refl
clocks-blank t (suc n) h l =
    let next : t.clock + 1 < blank_end t = omega arith in
    let after = iterate after_clock (suc n) t in
    let e = end-next t h next in
    clocks-blank (after_clock t) n (calm-next t h next) (omega (arith, e.0, e.1))
    ∙ (ap (λ (x : TiaState). with_rest_of after (after_blank n x)) (blank-clock t h next) ∙ later t (after_clock t) after n)

pub clocks-blank_end : (t : TiaState) (n : ℕ) → IsCalmInBlank t → t.clock + suc n ≡ blank_end t
    → iterate after_clock (suc n) t ≡ with_rest_of (iterate after_clock (suc n) t) (at_blank_end (suc n) t)
clocks-blank_end t zero h l = end-clock t h (omega arith)
clocks-blank_end t (suc n) h l =
    let next : t.clock + 1 < blank_end t = omega arith in
    let after = iterate after_clock (suc (suc n)) t in
    let e = end-next t h next in
    clocks-blank_end (after_clock t) n (calm-next t h next) (omega (arith, e.0, e.1))
    ∙ (ap (λ (x : TiaState). with_rest_of after (at_blank_end (suc n) x)) (blank-clock t h next) ∙ later-end t (after_clock t) after (suc n))

-- no pair is latched, unless a write has changed an object
pub kept : (y : TiaState) → (with_next_clock y).collisions ≡ y.collisions
kept y =
    cond_both (y.clock == 227) _ _ (λ (x : TiaState). x.collisions ≡ y.collisions) (λ e. refl)
    (λ e. cond_both (is_in_blank (at_next_clock y)) _ _ (λ (x : TiaState). x.collisions ≡ y.collisions) (λ f. refl) (λ f. refl))

not-latching : (vblank blank pulses changed : Bool) → blank ≡ true → pulses ≡ false → changed ≡ false → (not vblank && (not blank || pulses || changed)) ≡ false
not-latching vblank blank pulses changed i j k = rw (i, j, k) (and_right (not vblank) false refl)

pub in-blank : (clock : ℕ) (longer : Bool) → clock < (if longer then 76 else 68) → (nat_lt clock 68 || longer) ≡ true
in-blank clock true h = or_right (nat_lt clock 68) true refl
in-blank clock false h = or_left (nat_lt clock 68) false (lt-ltb clock 68 h)

pub clock-latches_none : (t : TiaState) → IsCalmInBlank t → t.clock < blank_end t → t.changed ≡ false → (after_clock t).collisions ≡ t.collisions
unfolding after_clock with-field
clock-latches_none t h l c =
    let now : is_in_blank t ≡ true = in-blank t.clock t.longer l in
    let y = with-field t in
    let none : is_latching y ≡ false = not-latching (has_bit t.vblank 1) (is_in_blank t) (pulses_on t) t.changed now (and_right (t.clock % 4 == 0) (any_moves t) h.calm.moves) c in
    ap (λ (q : TiaState). (with_next_clock (latched q)).collisions) (pixel-blank t t (free t h) (no-pulse t h.calm.moves) now) ∙ (kept (latched y) ∙ cond-false (is_latching y) _ _ none)

-- left of the picture its pixel is taken of the TIA as it is
pub pixel-left : (t : TiaState) → IsCalmInBlank t → t.clock < 68 → at_pixel t ≡ t
unfolding with-field
pixel-left t h l =
    pixel-blank t t (free t h) (no-pulse t h.calm.moves) (or_left (nat_lt t.clock 68) t.longer (lt-ltb t.clock 68 l))
    ∙ ap (λ (u : TiaState). record t { playfield = u.playfield; mirrored = u.mirrored }) (cond-true (nat_lt t.clock 68) _ _ (lt-ltb t.clock 68 l))
