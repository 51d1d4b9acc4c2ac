-- Four clocks in the blank are a pulse, and n times four are n pulses of each player.
use Rattle.std.proofs.Common.{◌≡◌, ◌∙◌, ◌⊎◌, inl, inr, ℕ, zero, suc, ◌+◌, ◌*◌, ◌%◌, ◌<◌, ◌==◌, ◌&&◌, ◌||◌, not, min, Bool, true, false, arith, refl, ap, sym, subst, if◌then◌else◌}
use Rattle.std.proofs.lemmas.Bool.{and_from, and_left, and_right, cases_Bool, cond-false, cond-true, eq-eqb, eqb-true, ne_eqb, not_from_false, or_parts, or_right}
use Rattle.std.specs.Fn.{iterate}
use Rattle.tia_chip.proofs.CalmBlank.{in-blank, pulse-ends, pulse-or-not, pulse-stays}
use Rattle.tia_chip.proofs.PulseLemmas.{player-pulse, stopped, with-moves}
use Rattle.tia_chip.specs.Calm.{IsFreeInBlank, after_blank, at_blank_end, blank_end, with_rest_of}
use Rattle.tia_chip.specs.Clock.{after_clock}
use Rattle.tia_chip.specs.Motion.{after_pulse, any_moves, pulsed}
use Rattle.tia_chip.specs.Pulses.{player_after_pulses, pulsed_player}
use Rattle.tia_chip.specs.declared.player.Player.{Player}
use Rattle.tia_chip.specs.declared.state.TiaState.{TiaState}

-- a clock that doesn't pulse
unpulsed : (t : TiaState) → (t.clock % 4 == 0) ≡ false → pulsed t ≡ t
unpulsed t e = cond-false ((t.clock % 4 == 0) && any_moves t) _ _ (and_left (t.clock % 4 == 0) (any_moves t) e)

free-later : (t rest : TiaState) (k : ℕ) → IsFreeInBlank t → IsFreeInBlank (with_rest_of rest (after_blank (suc k) t))
free-later t rest k h =
    record {
      waiting = h.waiting;
      hmove = h.hmove;
      beam = refl;
      start = or_right (not t.longer) (not (t.clock + suc k == 0)) (not_from_false (t.clock + suc k == 0) (ne_eqb (t.clock + suc k) 0 (λ e. omega arith)));
    }

abbrev IsAfter : ℕ → TiaState → TiaState → Type 0
IsAfter k u x = x ≡ with_rest_of x (after_blank k u)

stand : (u rest after : TiaState) (k : ℕ) → with_rest_of after (after_blank 1 (with_rest_of rest (after_blank (suc k) u))) ≡ with_rest_of after (after_blank (suc (suc k)) u)
stand u rest after k =
    let e : u.clock + suc k + 1 ≡ u.clock + suc (suc k) = omega arith in
    ap (λ (clock : ℕ). with_rest_of after (record u { clock = clock; beam = clock })) e

stand-end : (u rest after : TiaState) (k : ℕ) → with_rest_of after (at_blank_end 1 (with_rest_of rest (after_blank (suc k) u))) ≡ with_rest_of after (at_blank_end (suc (suc k)) u)
stand-end u rest after k =
    let e : u.clock + suc k + 1 ≡ u.clock + suc (suc k) = omega arith in
    ap (λ (clock : ℕ). with_rest_of after (record (at_blank_end 0 u) { clock = clock; beam = clock })) e

-- one clock more
next : (u x : TiaState) (k : ℕ) → IsFreeInBlank u → IsAfter (suc k) u x → ((u.clock + suc k) % 4 == 0) ≡ false → u.clock + suc k + 1 < blank_end u
    → IsAfter (suc (suc k)) u (after_clock x)
next u x k h e off l =
    let y = with_rest_of x (after_blank (suc k) u) in
    let later : after_clock y ≡ with_rest_of (after_clock y) (after_blank (suc (suc k)) u) =
    pulse-stays y y (free-later u x k h) (unpulsed y off) refl l ∙ stand u x (after_clock y) k
    in
    subst (λ (q : TiaState). IsAfter (suc (suc k)) u (after_clock q)) (sym e) later

next-end : (u x : TiaState) (k : ℕ) → IsFreeInBlank u → IsAfter (suc k) u x → ((u.clock + suc k) % 4 == 0) ≡ false → u.clock + suc k + 1 ≡ blank_end u
    → after_clock x ≡ with_rest_of (after_clock x) (at_blank_end (suc (suc k)) u)
next-end u x k h e off l =
    let y = with_rest_of x (after_blank (suc k) u) in
    let later : after_clock y ≡ with_rest_of (after_clock y) (at_blank_end (suc (suc k)) u) =
    pulse-ends y y (free-later u x k h) (unpulsed y off) refl l ∙ stand-end u x (after_clock y) k
    in
    subst (λ (q : TiaState). after_clock q ≡ with_rest_of (after_clock q) (at_blank_end (suc (suc k)) u)) (sym e) later

off-four : (clock k : ℕ) → (clock % 4 == 0) ≡ true → 0 < k → k < 4 → ((clock + k) % 4 == 0) ≡ false
off-four clock k e a b = let zero-rest = eqb-true (clock % 4) 0 e in ne_eqb ((clock + k) % 4) 0 (λ f. omega arith)

four-from : (t u : TiaState) → IsFreeInBlank t → IsFreeInBlank u → pulsed t ≡ u → (u.clock % 4 == 0) ≡ true → u.clock + 4 < blank_end u
    → IsAfter 4 u (iterate after_clock 4 t)
four-from t u h k p e l =
    let one = pulse-stays t u h p k.beam (omega arith) in
    let two = next u (after_clock t) 0 k one (off-four u.clock 1 e (omega arith) (omega arith)) (omega arith) in
    let three = next u (after_clock (after_clock t)) 1 k two (off-four u.clock 2 e (omega arith) (omega arith)) (omega arith) in
    next u (after_clock (after_clock (after_clock t))) 2 k three (off-four u.clock 3 e (omega arith) (omega arith)) (omega arith)

last-from : (t u : TiaState) → IsFreeInBlank t → IsFreeInBlank u → pulsed t ≡ u → (u.clock % 4 == 0) ≡ true → u.clock + 4 ≡ blank_end u
    → iterate after_clock 4 t ≡ with_rest_of (iterate after_clock 4 t) (at_blank_end 4 u)
last-from t u h k p e l =
    let one = pulse-stays t u h p k.beam (omega arith) in
    let two = next u (after_clock t) 0 k one (off-four u.clock 1 e (omega arith) (omega arith)) (omega arith) in
    let three = next u (after_clock (after_clock t)) 1 k two (off-four u.clock 2 e (omega arith) (omega arith)) (omega arith) in
    next-end u (after_clock (after_clock (after_clock t))) 2 k three (off-four u.clock 3 e (omega arith) (omega arith)) (omega arith)

free-pulsed : (t : TiaState) → IsFreeInBlank t → IsFreeInBlank (after_pulse t)
free-pulsed t h = record { waiting = h.waiting; hmove = h.hmove; beam = h.beam; start = h.start }

pub four-clocks : (t : TiaState) → IsFreeInBlank t → (t.clock % 4 == 0) ≡ true → t.clock + 4 < blank_end t
    → iterate after_clock 4 t ≡ with_rest_of (iterate after_clock 4 t) (after_blank 4 (pulsed t))
four-clocks t h e l =
    pulse-or-not t (cases_Bool ((t.clock % 4 == 0) && any_moves t)) (λ (u : TiaState). IsAfter 4 u (iterate after_clock 4 t))
    (λ p. four-from t (after_pulse t) h (free-pulsed t h) p e l) (λ p. four-from t t h h p e l)

pub last-four : (t : TiaState) → IsFreeInBlank t → (t.clock % 4 == 0) ≡ true → t.clock + 4 ≡ blank_end t
    → iterate after_clock 4 t ≡ with_rest_of (iterate after_clock 4 t) (at_blank_end 4 (pulsed t))
last-four t h e l =
    pulse-or-not t (cases_Bool ((t.clock % 4 == 0) && any_moves t)) (λ (u : TiaState). iterate after_clock 4 t ≡ with_rest_of (iterate after_clock 4 t) (at_blank_end 4 u))
    (λ p. last-from t (after_pulse t) h (free-pulsed t h) p e l) (λ p. last-from t t h h p e l)

-- ---- n pulses of a player
player-stopped : (p : Player) → p.moves ≡ false → p ≡ with-moves false p
unfolding with-moves
player-stopped p e = ap (λ (moves : Bool). record p { moves = moves }) e

-- the count is nothing to one that doesn't move
any-count : (a b n : ℕ) (p : Player) → p.moves ≡ false → player_after_pulses a n p ≡ player_after_pulses b n p
any-count a b n p e =
    let same = player-stopped p e in
    ap (λ (q : Player). player_after_pulses a n q) same
    ∙ (stopped n a p ∙ (sym (stopped n b p) ∙ ap (λ (q : Player). player_after_pulses b n q) (sym same)))

unpulsed-player : (pulses : ℕ) (p : Player) → p.moves ≡ false → pulsed_player pulses p ≡ p
unfolding with-moves
unpulsed-player pulses p e =
    let same = player-stopped p e in ap (λ (q : Player). pulsed_player pulses q) same ∙ sym same

counted : (moves : Bool) (pulses n : ℕ) (p : Player) → (moves ≡ false → p.moves ≡ false)
    → player_after_pulses (if moves then min (pulses + 1) 16 else 0) n p ≡ player_after_pulses (min (pulses + 1) 16) n p
counted true pulses n p h = refl
counted false pulses n p h = any-count 0 (min (pulses + 1) 16) n p (h refl)

abbrev pub four : TiaState → TiaState
four t = iterate after_clock 4 t

-- what a player of such a TIA is after n pulses, for each TIA
abbrev Pulses0 : ℕ → TiaState → Type 0
Pulses0 n t = (iterate four n t).player0 ≡ player_after_pulses t.pulses n t.player0

abbrev Pulses1 : ℕ → TiaState → Type 0
Pulses1 n t = (iterate four n t).player1 ≡ player_after_pulses t.pulses n t.player1

abbrev Each : ℕ → (ℕ → TiaState → Type 0) → Type 0
Each n P = (t : TiaState) → IsFreeInBlank t → (t.clock % 4 == 0) ≡ true → t.clock + 4 * n < blank_end t → P n t

first-player : (player0 player1 missile0 missile1 ball : Bool) → (player0 || player1 || missile0 || missile1 || ball) ≡ false → (player0 ≡ false) × (player1 ≡ false)
first-player a b c d e h =
    let four = or_parts (a || b || c || d) e h in
    let three = or_parts (a || b || c) d four.0 in
    let two = or_parts (a || b) c three.0 in
    or_parts a b two.0

four-on : (clock : ℕ) → (clock % 4 == 0) ≡ true → ((clock + 4) % 4 == 0) ≡ true
four-on clock e = let zero-rest = eqb-true (clock % 4) 0 e in eq-eqb ((clock + 4) % 4) 0 (omega arith)

-- after the first four clocks, where u is the TIA once it has pulsed
from-pulse : (n : ℕ) (P : ℕ → TiaState → Type 0) (t u : TiaState) → Each n P → IsFreeInBlank u → (u.clock % 4 == 0) ≡ true → u.clock + 4 * suc n < blank_end u
    → P n (with_rest_of (four t) (after_blank 4 u))
from-pulse n P t u each k e l = each (with_rest_of (four t) (after_blank 4 u)) (free-later u (four t) 3 k) (four-on u.clock e) (omega arith)

by-moves0 : (n : ℕ) (t : TiaState) → IsFreeInBlank t → (t.clock % 4 == 0) ≡ true → t.clock + 4 * suc n < blank_end t → Each n Pulses0
    → (any_moves t ≡ true) ⊎ (any_moves t ≡ false) → Pulses0 (suc n) t
by-moves0 n t h e l each (inl m) =
    let u = after_pulse t in
    let p : pulsed t ≡ u = cond-true ((t.clock % 4 == 0) && any_moves t) _ _ (and_from (t.clock % 4 == 0) (any_moves t) e m) in
    let k = free-pulsed t h in
    let f = four-from t u h k p e (omega arith) in
    subst (λ (q : TiaState). (iterate four n q).player0 ≡ player_after_pulses u.pulses n u.player0) (sym f) (from-pulse n Pulses0 t u each k e l)
    ∙ (counted (any_moves u) t.pulses n u.player0 (λ none. (first-player u.player0.moves u.player1.moves u.missile0.moves u.missile1.moves u.ball.moves none).0)
    ∙ ap (λ (q : Player). player_after_pulses (min (t.pulses + 1) 16) n q) (player-pulse t t.player0 (in-blank t.clock t.longer (omega arith))))
by-moves0 n t h e l each (inr m) =
    let p : pulsed t ≡ t = cond-false ((t.clock % 4 == 0) && any_moves t) _ _ (and_right (t.clock % 4 == 0) (any_moves t) m) in
    let f = four-from t t h h p e (omega arith) in
    let still = (first-player t.player0.moves t.player1.moves t.missile0.moves t.missile1.moves t.ball.moves m).0 in
    subst (λ (q : TiaState). (iterate four n q).player0 ≡ player_after_pulses t.pulses n t.player0) (sym f) (from-pulse n Pulses0 t t each h e l)
    ∙ (any-count t.pulses (min (t.pulses + 1) 16) n t.player0 still
    ∙ ap (λ (q : Player). player_after_pulses (min (t.pulses + 1) 16) n q) (sym (unpulsed-player t.pulses t.player0 still)))

pulses0 : (n : ℕ) → Each n Pulses0
pulses0 zero t h e l = refl
pulses0 (suc n) t h e l = by-moves0 n t h e l (λ x a b c. pulses0 n x a b c) (cases_Bool (any_moves t))

by-moves1 : (n : ℕ) (t : TiaState) → IsFreeInBlank t → (t.clock % 4 == 0) ≡ true → t.clock + 4 * suc n < blank_end t → Each n Pulses1
    → (any_moves t ≡ true) ⊎ (any_moves t ≡ false) → Pulses1 (suc n) t
by-moves1 n t h e l each (inl m) =
    let u = after_pulse t in
    let p : pulsed t ≡ u = cond-true ((t.clock % 4 == 0) && any_moves t) _ _ (and_from (t.clock % 4 == 0) (any_moves t) e m) in
    let k = free-pulsed t h in
    let f = four-from t u h k p e (omega arith) in
    subst (λ (q : TiaState). (iterate four n q).player1 ≡ player_after_pulses u.pulses n u.player1) (sym f) (from-pulse n Pulses1 t u each k e l)
    ∙ (counted (any_moves u) t.pulses n u.player1 (λ none. (first-player u.player0.moves u.player1.moves u.missile0.moves u.missile1.moves u.ball.moves none).1)
    ∙ ap (λ (q : Player). player_after_pulses (min (t.pulses + 1) 16) n q) (player-pulse t t.player1 (in-blank t.clock t.longer (omega arith))))
by-moves1 n t h e l each (inr m) =
    let p : pulsed t ≡ t = cond-false ((t.clock % 4 == 0) && any_moves t) _ _ (and_right (t.clock % 4 == 0) (any_moves t) m) in
    let f = four-from t t h h p e (omega arith) in
    let still = (first-player t.player0.moves t.player1.moves t.missile0.moves t.missile1.moves t.ball.moves m).1 in
    subst (λ (q : TiaState). (iterate four n q).player1 ≡ player_after_pulses t.pulses n t.player1) (sym f) (from-pulse n Pulses1 t t each h e l)
    ∙ (any-count t.pulses (min (t.pulses + 1) 16) n t.player1 still
    ∙ ap (λ (q : Player). player_after_pulses (min (t.pulses + 1) 16) n q) (sym (unpulsed-player t.pulses t.player1 still)))

pulses1 : (n : ℕ) → Each n Pulses1
pulses1 zero t h e l = refl
pulses1 (suc n) t h e l = by-moves1 n t h e l (λ x a b c. pulses1 n x a b c) (cases_Bool (any_moves t))

pub pulses-both : (t : TiaState) (n : ℕ) → IsFreeInBlank t → (t.clock % 4 == 0) ≡ true → t.clock + 4 * n < blank_end t
    → ((iterate (iterate after_clock 4) n t).player0 ≡ player_after_pulses t.pulses n t.player0)
    × ((iterate (iterate after_clock 4) n t).player1 ≡ player_after_pulses t.pulses n t.player1)
pulses-both t n h e l = (pulses0 n t h e l, pulses1 n t h e l)
