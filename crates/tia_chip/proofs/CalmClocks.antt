-- Clocks of the picture in which no write is on its way and nothing moves.
use Rattle.std.proofs.Common.{◌≡◌, ◌∙◌, ℕ, zero, suc, ◌+◌, ◌-◌, ◌%◌, ◌<◌, ◌≤◌, ◌==◌, ◌&&◌, ◌||◌, not, min, Bool, false, arith, refl, ap, sym, subst}
use Rattle.std.proofs.Common.{Option, Some, None}
use Rattle.std.proofs.lemmas.Bool.{and_left, and_right, cond-false, cond-true, cond_both, eq-eqb, le-ltb, ne_eqb, or_from, or_parts}
use Rattle.std.specs.Fn.{iterate}
use Rattle.std.specs.Prelude.{nat_le, nat_lt}
use Rattle.tia_chip.proofs.QuietAges.{alike-three}
use Rattle.tia_chip.proofs.UnderwayBall as ball
use Rattle.tia_chip.proofs.UnderwayPlayers.{stepped-moves}
use Rattle.tia_chip.specs.Ball.{ball_after_step}
use Rattle.tia_chip.specs.Blank.{is_in_blank}
use Rattle.tia_chip.specs.Calm.{IsCalmInPicture, after_line, after_picture, after_steps, at_pixel_after, with_rest_of}
use Rattle.tia_chip.specs.Clock.{after_clock, at_line_start, at_next_clock, at_next_line, at_pixel, looked_at}
use Rattle.tia_chip.specs.Clock.{stepped, with_next_clock, without_rest, without_seen}
use Rattle.tia_chip.specs.Collision.{latched}
use Rattle.tia_chip.specs.Counter.{next_counter}
use Rattle.tia_chip.specs.Missile.{copy_before_step, missile_after_step, size_of}
use Rattle.tia_chip.specs.Motion.{any_moves, pulsed}
use Rattle.tia_chip.specs.Player.{copy_after_step, counts_for_change, looked_at_player, player_after_step}
use Rattle.tia_chip.specs.Playfield.{with_playfield}
use Rattle.tia_chip.specs.Write.{with_hmove_in, with_waited, with_waited_hmove, with_waited_write, with_waited_writes}
use Rattle.tia_chip.specs.declared.missile.Missile.{Missile}
use Rattle.tia_chip.specs.declared.missile.MissileCopy.{MissileCopy}
use Rattle.tia_chip.specs.declared.player.Player.{Player}
use Rattle.tia_chip.specs.declared.state.TiaState.{TiaState}

alike-four : {A B C D E : Type 0} (f : A → B → C → D → E) (a a' : A) (b b' : B) (c c' : C) (d d' : D)
    → a ≡ a' → b ≡ b' → c ≡ c' → d ≡ d' → f a b c d ≡ f a' b' c' d'
alike-four f a a' b b' c c' d d' i j k l = cc

-- ---- before the steps
pub no-writes : (t : TiaState) → t.waiting ≡ None → t.hmove ≡ None → with_waited_writes t ≡ t
no-writes t waiting hmove =
    let write : with_waited_write t ≡ t = ap (λ o. with_waited o t) waiting in
    ap (λ (x : TiaState). with_waited_hmove x) write ∙ ap (λ o. with_hmove_in o t) hmove

no-start : (t : TiaState) → 68 ≤ t.clock → at_line_start t ≡ t
no-start t f = cond-false (t.clock == 0) _ _ (ne_eqb t.clock 0 (λ e. omega arith))

pub no-pulse : (t : TiaState) → any_moves t ≡ false → pulsed t ≡ t
no-pulse t h = cond-false ((t.clock % 4 == 0) && any_moves t) _ _ (and_right (t.clock % 4 == 0) (any_moves t) h)

abbrev pub OnlyField : TiaState → TiaState → Type 0
OnlyField t after = after ≡ record t { playfield = after.playfield; mirrored = after.mirrored }

pub only-field : (t : TiaState) → OnlyField t (with_playfield t)
only-field t =
    cond_both (nat_lt t.clock 68) _ _ (OnlyField t) (λ e. refl)
    (λ e. cond_both (nat_le 225 t.clock && t.longer) _ _ (OnlyField t) (λ f. refl)
    (λ f. cond_both ((t.beam - 68) % 4 == 0) _ _ (OnlyField t) (λ g. refl) (λ g. refl)))

pub shown : (t : TiaState) → IsCalmInPicture t → is_in_blank t ≡ false
shown t h = or_from (nat_lt t.clock 68) t.longer (le-ltb t.clock 68 h.clock) h.longer

-- ---- the pixel
each-stepped : (t : TiaState) (playfield mirrored : Bool) → is_in_blank t ≡ false
    → stepped (record t { playfield = playfield; mirrored = mirrored }) ≡ record (after_steps 1 t) { playfield = playfield; mirrored = mirrored }
each-stepped t playfield mirrored e = cond-false (is_in_blank t) _ _ e

pub pixel-steps : (t : TiaState) → IsCalmInPicture t
    → at_pixel t ≡ record (after_steps 1 t) { playfield = (with_playfield t).playfield; mirrored = (with_playfield t).mirrored }
unfolding at_pixel
pixel-steps t h =
    ap (λ (x : TiaState). stepped (with_playfield (pulsed (at_line_start x)))) (no-writes t h.calm.waiting h.calm.hmove)
    ∙ (ap (λ (x : TiaState). stepped (with_playfield (pulsed x))) (no-start t h.clock)
    ∙ (ap (λ (x : TiaState). stepped (with_playfield x)) (no-pulse t h.calm.moves)
    ∙ (ap (λ (x : TiaState). stepped x) (only-field t)
    ∙ each-stepped t (with_playfield t).playfield (with_playfield t).mirrored (shown t h))))

first-pixel : (t : TiaState) → IsCalmInPicture t → at_pixel t ≡ with_rest_of (at_pixel t) (at_pixel_after 0 t)
first-pixel t h =
    let e = pixel-steps t h in
    let x = record (after_steps 1 t) { playfield = (with_playfield t).playfield; mirrored = (with_playfield t).mirrored } in
    e ∙ (alike-three (λ (clock beam : ℕ) (rest : TiaState). with_rest_of rest (record (after_steps 1 t) { clock = clock; beam = beam }))
    t.clock (t.clock + 0) t.beam (t.clock + 0) x (at_pixel t) (omega arith) (omega (arith, h.calm.beam)) (sym e))

-- ---- the next clock
rest-cleared : (t : TiaState) → is_in_blank t ≡ false
    → without_rest t ≡ without_seen (record t { playfield = t.playfield && not (t.beam % 4 == 0); mirrored = t.mirrored && nat_lt t.beam 225 })
rest-cleared t e = cond-false (is_in_blank t) _ _ e

to-next : (y : TiaState) → 68 ≤ y.clock → y.longer ≡ false → y.clock + 1 < 228
    → with_next_clock y ≡ without_seen (record (at_next_clock y) { playfield = (at_next_clock y).playfield && not ((at_next_clock y).beam % 4 == 0); mirrored = (at_next_clock y).mirrored && nat_lt (at_next_clock y).beam 225 })
to-next y f g l =
    cond-false (y.clock == 227) _ _ (ne_eqb y.clock 227 (λ e. omega arith))
    ∙ rest-cleared (at_next_clock y) (or_from (nat_lt (y.clock + 1) 68) (y.longer && not (y.clock == 75)) (le-ltb (y.clock + 1) 68 (omega arith)) (and_left y.longer (not (y.clock == 75)) g))

clocked : TiaState → ℕ → ℕ → Bool → TiaState → TiaState
clocked t clock beam longer rest = with_rest_of rest (record (without_seen (after_steps 1 t)) { clock = clock; beam = beam; longer = longer })

first-clock : (t : TiaState) → IsCalmInPicture t → t.clock + 1 < 228 → after_clock t ≡ with_rest_of (after_clock t) (after_picture 1 t)
unfolding after_clock clocked
first-clock t h l =
    let x = record (after_steps 1 t) { playfield = (with_playfield t).playfield; mirrored = (with_playfield t).mirrored } in
    let y = latched x in
    let z = without_seen (record (at_next_clock y) { playfield = (at_next_clock y).playfield && not ((at_next_clock y).beam % 4 == 0); mirrored = (at_next_clock y).mirrored && nat_lt (at_next_clock y).beam 225 }) in
    let e : after_clock t ≡ z = ap (λ (q : TiaState). with_next_clock (latched q)) (pixel-steps t h) ∙ to-next y h.clock h.longer l in
    e ∙ alike-four (clocked t) (t.clock + 1) (t.clock + 1) (min (t.beam + 1) 227) (t.clock + 1) (t.longer && not (t.clock == 75)) t.longer z (after_clock t) refl (omega (arith, h.calm.beam))
    (and_left t.longer (not (t.clock == 75)) h.longer ∙ sym h.longer) (sym e)

last-clock : (t : TiaState) → IsCalmInPicture t → t.clock + 1 ≡ 228 → after_clock t ≡ with_rest_of (after_clock t) (after_line 1 t)
unfolding after_clock
last-clock t h l =
    let x = record (after_steps 1 t) { playfield = (with_playfield t).playfield; mirrored = (with_playfield t).mirrored } in
    let y = latched x in
    let z = at_next_line y in
    let e : after_clock t ≡ z = ap (λ (q : TiaState). with_next_clock (latched q)) (pixel-steps t h) ∙ cond-true (t.clock == 227) _ _ (eq-eqb t.clock 227 (omega arith)) in
    e ∙ alike-three (λ (longer : Bool) (rest : TiaState) (n : ℕ). with_rest_of rest (record (looked_at (after_steps 1 t)) { clock = 0; beam = 0; line = (t.line + 1) % 65536; longer = longer }))
    false t.longer z (after_clock t) 0 0 (sym h.longer) (sym e) refl

-- ---- what a step keeps
stepped-nusiz : (p : Player) → (player_after_step p).nusiz ≡ p.nusiz
stepped-nusiz p =
    let next = record (looked_at_player p) { counter = next_counter p.counter; copy = copy_after_step p } in
    cond_both (counts_for_change p) _ _ (λ (q : Player). q.nusiz ≡ p.nusiz)
    (λ e. cond_both (next.change == 1) _ _ (λ (q : Player). q.nusiz ≡ p.nusiz) (λ f. refl) (λ f. refl)) (λ e. refl)

none-moves : (a b c d e a' b' e' : Bool) → a' ≡ a → b' ≡ b → e' ≡ e → (a || b || c || d || e) ≡ false → (a' || b' || c || d || e') ≡ false
none-moves a b c d e a' b' e' i j k h = rw (i, j, k) h

calm-after : (t rest : TiaState) → IsCalmInPicture t → IsCalmInPicture (with_rest_of rest (after_picture 1 t))
calm-after t rest h =
    record {
      calm = record {
        waiting = h.calm.waiting;
        hmove = h.calm.hmove;
        moves = none-moves t.player0.moves t.player1.moves t.missile0.moves t.missile1.moves t.ball.moves (player_after_step t.player0).moves (player_after_step t.player1).moves (ball_after_step t.ctrlpf false t.ball).moves
            (stepped-moves t.player0) (stepped-moves t.player1) (ball.stepped-moves t.ctrlpf false t.ball) h.calm.moves;
        beam = refl;
      };
      clock = omega (arith, h.clock);
      longer = h.longer;
    }

-- the clock is nothing to a missile that doesn't move
before-any : (size clock other : ℕ) (copy : Option MissileCopy) → copy_before_step size clock false copy ≡ copy_before_step size other false copy
before-any size clock other None = refl
before-any size clock other (Some copy) = refl

unmoved : Missile → Missile
unmoved m = record m { moves = false }

unmoved-any : (nusiz clock other : ℕ) (m : Missile) → missile_after_step nusiz clock (unmoved m) ≡ missile_after_step nusiz other (unmoved m)
unfolding unmoved
unmoved-any nusiz clock other m = rw (before-any (size_of nusiz) clock other m.copy) refl

step-any : (nusiz clock other : ℕ) (m : Missile) → m.moves ≡ false → missile_after_step nusiz clock m ≡ missile_after_step nusiz other m
unfolding unmoved
step-any nusiz clock other m e =
    let same : m ≡ unmoved m = ap (λ (moves : Bool). record m { moves = moves }) e in
    ap (λ (q : Missile). missile_after_step nusiz clock q) same ∙ (unmoved-any nusiz clock other m ∙ ap (λ (q : Missile). missile_after_step nusiz other q) (sym same))

pub steps-any : (nusiz other-nusiz clock other : ℕ) (m : Missile) (n : ℕ) → nusiz ≡ other-nusiz → m.moves ≡ false
    → iterate (missile_after_step nusiz clock) n m ≡ iterate (missile_after_step other-nusiz other) n m
steps-any nusiz other-nusiz clock other m zero s e = refl
steps-any nusiz other-nusiz clock other m (suc n) s e =
    let first : missile_after_step nusiz clock m ≡ missile_after_step other-nusiz other m = step-any nusiz clock other m e ∙ ap (λ k. missile_after_step k other m) s in
    steps-any nusiz other-nusiz clock other (missile_after_step nusiz clock m) n s e ∙ ap (λ (q : Missile). iterate (missile_after_step other-nusiz other) n q) first

pub record IsStill (t : TiaState) : Type 0 where
  pub missile0 : t.missile0.moves ≡ false
  pub missile1 : t.missile1.moves ≡ false
  pub ball : t.ball.moves ≡ false

pub still : (t : TiaState) → any_moves t ≡ false → IsStill t
still t h =
    let four = or_parts (t.player0.moves || t.player1.moves || t.missile0.moves || t.missile1.moves) t.ball.moves h in
    let three = or_parts (t.player0.moves || t.player1.moves || t.missile0.moves) t.missile1.moves four.0 in
    let two = or_parts (t.player0.moves || t.player1.moves) t.missile0.moves three.0 in
    record { missile0 = two.1; missile1 = three.1; ball = four.1 }

-- ---- n clocks
-- the objects after a clock and n + 1 steps are those after n + 2 steps
missile0-later : (t : TiaState) (n : ℕ) → IsCalmInPicture t
    → iterate (missile_after_step (player_after_step t.player0).nusiz (t.clock + 1)) (suc n) (record (missile_after_step t.player0.nusiz t.clock t.missile0) { seen = false })
    ≡ iterate (missile_after_step t.player0.nusiz t.clock) (suc (suc n)) t.missile0
missile0-later t n h =
    steps-any (player_after_step t.player0).nusiz t.player0.nusiz (t.clock + 1) t.clock (record (missile_after_step t.player0.nusiz t.clock t.missile0) { seen = false }) (suc n) (stepped-nusiz t.player0) (still t h.calm.moves).missile0

missile1-later : (t : TiaState) (n : ℕ) → IsCalmInPicture t
    → iterate (missile_after_step (player_after_step t.player1).nusiz (t.clock + 1)) (suc n) (record (missile_after_step t.player1.nusiz t.clock t.missile1) { seen = false })
    ≡ iterate (missile_after_step t.player1.nusiz t.clock) (suc (suc n)) t.missile1
missile1-later t n h =
    steps-any (player_after_step t.player1).nusiz t.player1.nusiz (t.clock + 1) t.clock (record (missile_after_step t.player1.nusiz t.clock t.missile1) { seen = false }) (suc n) (stepped-nusiz t.player1) (still t h.calm.moves).missile1

-- the TIA with the objects after n + 2 steps, but these missiles, and at this clock
stands : TiaState → ℕ → Missile → Missile → ℕ → TiaState
stands t n missile0 missile1 clock = record (after_steps (suc (suc n)) t) { missile0 = missile0; missile1 = missile1; clock = clock; beam = clock }

missile0-of : TiaState → ℕ → Missile
missile0-of t n = iterate (missile_after_step (player_after_step t.player0).nusiz (t.clock + 1)) (suc n) (record (missile_after_step t.player0.nusiz t.clock t.missile0) { seen = false })

missile1-of : TiaState → ℕ → Missile
missile1-of t n = iterate (missile_after_step (player_after_step t.player1).nusiz (t.clock + 1)) (suc n) (record (missile_after_step t.player1.nusiz t.clock t.missile1) { seen = false })

stands-later : (t : TiaState) (n clock later : ℕ) (f : TiaState → TiaState) → IsCalmInPicture t → clock ≡ later
    → f (stands t n (missile0-of t n) (missile1-of t n) clock) ≡ f (stands t n (iterate (missile_after_step t.player0.nusiz t.clock) (suc (suc n)) t.missile0) (iterate (missile_after_step t.player1.nusiz t.clock) (suc (suc n)) t.missile1) later)
unfolding missile0-of missile1-of
stands-later t n clock later f h e =
    alike-three (λ (missile0 missile1 : Missile) (clock : ℕ). f (stands t n missile0 missile1 clock))
    (missile0-of t n) (iterate (missile_after_step t.player0.nusiz t.clock) (suc (suc n)) t.missile0)
    (missile1-of t n) (iterate (missile_after_step t.player1.nusiz t.clock) (suc (suc n)) t.missile1) clock later (missile0-later t n h) (missile1-later t n h) e

picture-later : (t rest after : TiaState) (n : ℕ) → IsCalmInPicture t
    → with_rest_of after (after_picture (suc n) (with_rest_of rest (after_picture 1 t))) ≡ with_rest_of after (after_picture (suc (suc n)) t)
unfolding stands missile0-of missile1-of
picture-later t rest after n h =
    stands-later t n (t.clock + 1 + suc n) (t.clock + suc (suc n)) (λ x. with_rest_of after (without_seen x)) h (omega arith)

line-later : (t rest after : TiaState) (n : ℕ) → IsCalmInPicture t
    → with_rest_of after (after_line (suc n) (with_rest_of rest (after_picture 1 t))) ≡ with_rest_of after (after_line (suc (suc n)) t)
unfolding stands missile0-of missile1-of
line-later t rest after n h =
    stands-later t n 0 0 (λ x. with_rest_of after (record (looked_at x) { line = (t.line + 1) % 65536 })) h refl

pixel-later : (t rest after : TiaState) (n : ℕ) → IsCalmInPicture t
    → with_rest_of after (at_pixel_after n (with_rest_of rest (after_picture 1 t))) ≡ with_rest_of after (at_pixel_after (suc n) t)
unfolding stands missile0-of missile1-of
pixel-later t rest after n h =
    stands-later t n (t.clock + 1 + n) (t.clock + suc n) (λ x. with_rest_of after x) h (omega arith)

pub calm-next : (t : TiaState) → IsCalmInPicture t → t.clock + 1 < 228 → IsCalmInPicture (after_clock t)
calm-next t h l = subst (λ x. IsCalmInPicture x) (sym (first-clock t h l)) (calm-after t (after_clock t) h)

pub clock-next : (t : TiaState) → IsCalmInPicture t → t.clock + 1 < 228 → (after_clock t).clock ≡ t.clock + 1
clock-next t h l = ap (λ (x : TiaState). x.clock) (first-clock t h l)

pub clocks-picture : (t : TiaState) (n : ℕ) → IsCalmInPicture t → t.clock + suc n < 228
    → iterate after_clock (suc n) t ≡ with_rest_of (iterate after_clock (suc n) t) (after_picture (suc n) t)
clocks-picture t zero h l = first-clock t h (omega arith)
clocks-picture t (suc n) h l =
    let next : t.clock + 1 < 228 = omega arith in
    let after = iterate after_clock (suc (suc n)) t in
    clocks-picture (after_clock t) n (calm-next t h next) (omega (arith, clock-next t h next))
    ∙ (ap (λ (x : TiaState). with_rest_of after (after_picture (suc n) x)) (first-clock t h next) ∙ picture-later t (after_clock t) after n h)

pub clocks-line : (t : TiaState) (n : ℕ) → IsCalmInPicture t → t.clock + suc n ≡ 228
    → iterate after_clock (suc n) t ≡ with_rest_of (iterate after_clock (suc n) t) (after_line (suc n) t)
clocks-line t zero h l = last-clock t h (omega arith)
clocks-line t (suc n) h l =
    let next : t.clock + 1 < 228 = omega arith in
    let after = iterate after_clock (suc (suc n)) t in
    clocks-line (after_clock t) n (calm-next t h next) (omega (arith, clock-next t h next))
    ∙ (ap (λ (x : TiaState). with_rest_of after (after_line (suc n) x)) (first-clock t h next) ∙ line-later t (after_clock t) after n h)

pub clocks-pixel : (t : TiaState) (n : ℕ) → IsCalmInPicture t → t.clock + n < 228
    → at_pixel (iterate after_clock n t) ≡ with_rest_of (at_pixel (iterate after_clock n t)) (at_pixel_after n t)
clocks-pixel t zero h l = first-pixel t h
clocks-pixel t (suc n) h l =
    let next : t.clock + 1 < 228 = omega arith in
    let after = at_pixel (iterate after_clock (suc n) t) in
    clocks-pixel (after_clock t) n (calm-next t h next) (omega (arith, clock-next t h next))
    ∙ (ap (λ (x : TiaState). with_rest_of after (at_pixel_after n x)) (first-clock t h next) ∙ pixel-later t (after_clock t) after n h)

pub clocks-calm : (t : TiaState) (n : ℕ) → IsCalmInPicture t → t.clock + n < 228 → IsCalmInPicture (iterate after_clock n t)
clocks-calm t zero h l = h
clocks-calm t (suc n) h l =
    let next : t.clock + 1 < 228 = omega arith in
    clocks-calm (after_clock t) n (calm-next t h next) (omega (arith, clock-next t h next))
