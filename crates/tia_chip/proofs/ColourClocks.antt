-- Clocks of a TIA with other colours: they show other pixels, and change nothing else. So a write of a
-- colour may come before them.
use Rattle.std.proofs.Common.{◌≡◌, ◌∙◌, ℕ, zero, suc, ◌-◌, ◌%◌, ◌==◌, ◌&&◌, not, true, false, Option, Some, None, refl, ap, sym, if◌then◌else◌}
use Rattle.std.proofs.lemmas.Bool.{cond_both}
use Rattle.std.specs.Fn.{iterate}
use Rattle.std.specs.Prelude.{nat_le, nat_lt}
use Rattle.tia_chip.specs.Ball.{ball_after_step}
use Rattle.tia_chip.specs.Blank.{is_in_blank}
use Rattle.tia_chip.specs.Clock.{after_clock, at_line_start, at_next_clock, at_next_line, at_pixel, stepped, with_next_clock, without_rest, without_seen}
use Rattle.tia_chip.specs.Collision.{latched}
use Rattle.tia_chip.specs.Missile.{missile_after_step}
use Rattle.tia_chip.specs.Motion.{after_hmove, after_pulse, any_moves, pulsed}
use Rattle.tia_chip.specs.Player.{player_after_step}
use Rattle.tia_chip.specs.Playfield.{mirrored_at, playfield_at, playfield_bit, playfield_index, with_playfield}
use Rattle.tia_chip.specs.Private.Late.{acts_late, is_colour, is_free}
use Rattle.tia_chip.specs.Registers.{register_bits, register_of}
use Rattle.tia_chip.specs.Write.{acted, after_action, after_register_write, tia_after_write, with_hmove_in, with_waited, with_waited_hmove, with_waited_write, with_waited_writes}
use Rattle.tia_chip.specs.declared.register.Register.{Register}
use Rattle.tia_chip.specs.declared.register.Register.TheVariants.{Colup0, Colup1, Colupf, Colubk, Refp0, Refp1, Pf0, Pf1, Pf2, Grp0, Grp1, Enam0}
use Rattle.tia_chip.specs.declared.register.Register.TheVariants.{Enam1, Enabl, Hmp0, Hmp1, Hmm0, Hmm1, Hmbl, Hmclr}
use Rattle.tia_chip.specs.declared.state.TiaState.{TiaState}
use Rattle.tia_chip.specs.declared.waiting.Waiting.{Waiting}
use Rattle.tia_chip.proofs.AtRestLemmas.{acted-alike, hmove_in-waiting, next-way, pixel-same}
use Rattle.tia_chip.proofs.ShownWrites.{acts-alone}
use Rattle.tia_chip.proofs.WaitingLemmas.{clock-is, of-both, without-writes}

-- a TIA with these colours
abbrev painted : ℕ → ℕ → ℕ → ℕ → TiaState → TiaState
painted a b c d t = record t { colup0 = a; colup1 = b; colupf = c; colubk = d }

-- ---- the writes that have waited
acted-painted : (r : Register) (v a b c d : ℕ) (t : TiaState) → acts_late r ≡ true → after_action r v (painted a b c d t) ≡ painted a b c d (after_action r v t)
acted-painted Refp0 v a b c d t h = refl
acted-painted Refp1 v a b c d t h = refl
acted-painted Pf0 v a b c d t h = refl
acted-painted Pf1 v a b c d t h = refl
acted-painted Pf2 v a b c d t h = refl
acted-painted Grp0 v a b c d t h = refl
acted-painted Grp1 v a b c d t h = refl
acted-painted Enam0 v a b c d t h = refl
acted-painted Enam1 v a b c d t h = refl
acted-painted Enabl v a b c d t h = refl
acted-painted Hmp0 v a b c d t h = refl
acted-painted Hmp1 v a b c d t h = refl
acted-painted Hmm0 v a b c d t h = refl
acted-painted Hmm1 v a b c d t h = refl
acted-painted Hmbl v a b c d t h = refl
acted-painted Hmclr v a b c d t h = refl
acted-painted r v a b c d t h = cc

waited-painted : (o : Option Waiting) (a b c d : ℕ) (t : TiaState) → is_free o ≡ true → with_waited o (painted a b c d t) ≡ painted a b c d (with_waited o t)
waited-painted None a b c d t h = refl
waited-painted (Some w) a b c d t h =
    let nearer = record t { waiting = Some (record w { clocks = w.clocks - 1 }) } in
    ap (λ (x : TiaState). if w.clocks == 0 then x else painted a b c d nearer) (acted-painted w.register w.value a b c d (record t { waiting = None }) h)
    ∙ of-both (w.clocks == 0) (after_action w.register w.value (record t { waiting = None })) nearer (λ x. painted a b c d x)

hmove_in-painted : (o : Option ℕ) (a b c d : ℕ) (t : TiaState) → with_hmove_in o (painted a b c d t) ≡ painted a b c d (with_hmove_in o t)
hmove_in-painted None a b c d t = refl
hmove_in-painted (Some n) a b c d t = of-both (n == 0) (after_hmove (record t { hmove = None })) (record t { hmove = Some (n - 1) }) (λ x. painted a b c d x)

writes-painted : (a b c d : ℕ) (t : TiaState) → is_free t.waiting ≡ true → with_waited_writes (painted a b c d t) ≡ painted a b c d (with_waited_writes t)
writes-painted a b c d t h =
    let write = with_waited_write t in
    ap (λ (x : TiaState). with_waited_hmove x) (waited-painted t.waiting a b c d t h) ∙ hmove_in-painted write.hmove a b c d write

-- ---- the rest of a clock
start-painted : (a b c d : ℕ) (t : TiaState) → at_line_start (painted a b c d t) ≡ painted a b c d (at_line_start t)
start-painted a b c d t = of-both (t.clock == 0) (record t { longer = false }) t (λ x. painted a b c d x)

pulse-painted : (a b c d : ℕ) (t : TiaState) → pulsed (painted a b c d t) ≡ painted a b c d (pulsed t)
pulse-painted a b c d t = of-both ((t.clock % 4 == 0) && any_moves t) (after_pulse t) t (λ x. painted a b c d x)

take-painted : (a b c d : ℕ) (t : TiaState) (x : ℕ) → playfield_at (painted a b c d t) x ≡ painted a b c d (playfield_at t x)
take-painted a b c d t x =
    of-both (x % 4 == 0) (record t { mirrored = mirrored_at t x; playfield = playfield_bit t.pf0 t.pf1 t.pf2 (playfield_index (mirrored_at t x) x) }) t (λ y. painted a b c d y)

field-painted : (a b c d : ℕ) (t : TiaState) → with_playfield (painted a b c d t) ≡ painted a b c d (with_playfield t)
field-painted a b c d t =
    let off = record t { playfield = false } in
    let taken = playfield_at t (t.beam - 68) in
    let past = nat_le 225 t.clock && t.longer in
    ap (λ (y : TiaState). if nat_lt t.clock 68 then painted a b c d t else (if past then painted a b c d off else y)) (take-painted a b c d t (t.beam - 68))
    ∙ (ap (λ (y : TiaState). if nat_lt t.clock 68 then painted a b c d t else y) (of-both past off taken (λ x. painted a b c d x))
    ∙ of-both (nat_lt t.clock 68) t (if past then off else taken) (λ x. painted a b c d x))

step-painted : (a b c d : ℕ) (t : TiaState) → stepped (painted a b c d t) ≡ painted a b c d (stepped t)
step-painted a b c d t =
    of-both (is_in_blank t) t (record t {
      player0 = player_after_step t.player0;
      player1 = player_after_step t.player1;
      missile0 = missile_after_step t.player0.nusiz t.clock t.missile0;
      missile1 = missile_after_step t.player1.nusiz t.clock t.missile1;
      ball = ball_after_step t.ctrlpf false t.ball;
    }) (λ x. painted a b c d x)

rest-painted : (a b c d : ℕ) (t : TiaState) → without_rest (painted a b c d t) ≡ painted a b c d (without_rest t)
rest-painted a b c d t =
    let cleared = record t { playfield = t.playfield && not (t.beam % 4 == 0); mirrored = t.mirrored && nat_lt t.beam 225 } in
    of-both (is_in_blank t) cleared (without_seen cleared) (λ x. painted a b c d x)

next-painted : (a b c d : ℕ) (t : TiaState) → with_next_clock (painted a b c d t) ≡ painted a b c d (with_next_clock t)
next-painted a b c d t =
    ap (λ (y : TiaState). if t.clock == 227 then painted a b c d (at_next_line t) else y) (rest-painted a b c d (at_next_clock t))
    ∙ of-both (t.clock == 227) (at_next_line t) (without_rest (at_next_clock t)) (λ x. painted a b c d x)

unwritten-painted : (a b c d : ℕ) (t : TiaState) → without-writes (painted a b c d t) ≡ painted a b c d (without-writes t)
unfolding without-writes
unwritten-painted a b c d t =
    let begun = at_line_start t in
    let moved = pulsed begun in
    let drawn = with_playfield moved in
    ap (λ (x : TiaState). with_next_clock (latched (stepped (with_playfield (pulsed x))))) (start-painted a b c d t)
    ∙ (ap (λ (x : TiaState). with_next_clock (latched (stepped (with_playfield x)))) (pulse-painted a b c d begun)
    ∙ (ap (λ (x : TiaState). with_next_clock (latched (stepped x))) (field-painted a b c d moved)
    ∙ (ap (λ (x : TiaState). with_next_clock (latched x)) (step-painted a b c d drawn) ∙ next-painted a b c d (latched (stepped drawn)))))

clock-painted : (a b c d : ℕ) (t : TiaState) → is_free t.waiting ≡ true → after_clock (painted a b c d t) ≡ painted a b c d (after_clock t)
clock-painted a b c d t h =
    clock-is (painted a b c d t)
    ∙ (ap (λ (x : TiaState). without-writes x) (writes-painted a b c d t h)
    ∙ (unwritten-painted a b c d (with_waited_writes t) ∙ ap (λ (x : TiaState). painted a b c d x) (sym (clock-is t))))

-- ---- a write that is on its way stays one that acts late
waited-free : (o : Option Waiting) (t : TiaState) → t.waiting ≡ o → is_free o ≡ true → is_free (with_waited o t).waiting ≡ true
waited-free None t is k = rw is refl
waited-free (Some w) t is k =
    cond_both (w.clocks == 0) _ _ (λ (u : TiaState). is_free u.waiting ≡ true)
    (λ e. rw (acted-alike w.register w.value (record t { waiting = None })).waiting refl) (λ e. k)

clock-free : (t : TiaState) → is_free t.waiting ≡ true → is_free (after_clock t).waiting ≡ true
unfolding after_clock
clock-free t k =
    let write = with_waited_write t in
    let same = pixel-same t in
    let pixel = latched (at_pixel t) in
    let waiting = (next-way pixel).0 ∙ same.0 ∙ hmove_in-waiting write.hmove write in
    ap is_free waiting ∙ waited-free t.waiting t refl k

-- ---- a colour
clock-coloured : (r : Register) (v : ℕ) (t : TiaState) → is_colour r ≡ true → is_free t.waiting ≡ true → after_clock (acted r v t) ≡ acted r v (after_clock t)
clock-coloured Colup0 v t h k =
    let x = register_bits Colup0 v in
    clock-painted x t.colup1 t.colupf t.colubk t k ∙ ap (λ (y : TiaState). record y { colup0 = x }) (sym (clock-painted t.colup0 t.colup1 t.colupf t.colubk t k))
clock-coloured Colup1 v t h k =
    let x = register_bits Colup1 v in
    clock-painted t.colup0 x t.colupf t.colubk t k ∙ ap (λ (y : TiaState). record y { colup1 = x }) (sym (clock-painted t.colup0 t.colup1 t.colupf t.colubk t k))
clock-coloured Colupf v t h k =
    let x = register_bits Colupf v in
    clock-painted t.colup0 t.colup1 x t.colubk t k ∙ ap (λ (y : TiaState). record y { colupf = x }) (sym (clock-painted t.colup0 t.colup1 t.colupf t.colubk t k))
clock-coloured Colubk v t h k =
    let x = register_bits Colubk v in
    clock-painted t.colup0 t.colup1 t.colupf x t k ∙ ap (λ (y : TiaState). record y { colubk = x }) (sym (clock-painted t.colup0 t.colup1 t.colupf t.colubk t k))
clock-coloured r v t h k = absurd cc

coloured : (r : Register) (v n : ℕ) (t : TiaState) → is_colour r ≡ true → is_free t.waiting ≡ true → iterate after_clock n (acted r v t) ≡ acted r v (iterate after_clock n t)
coloured r v zero t h k = refl
coloured r v (suc n) t h k =
    ap (λ (x : TiaState). iterate after_clock n x) (clock-coloured r v t h k) ∙ coloured r v n (after_clock t) h (clock-free t k)

colour-write : (r : Register) (v : ℕ) (t : TiaState) → is_colour r ≡ true → after_register_write r v t ≡ acted r v t
colour-write Colup0 v t h = sym (acts-alone Colup0 v t refl)
colour-write Colup1 v t h = sym (acts-alone Colup1 v t refl)
colour-write Colupf v t h = sym (acts-alone Colupf v t refl)
colour-write Colubk v t h = sym (acts-alone Colubk v t refl)
colour-write r v t h = absurd cc

pub written-ahead : (n number v : ℕ) (t : TiaState) → is_colour (register_of number) ≡ true → is_free t.waiting ≡ true
    → iterate after_clock n (tia_after_write t number v) ≡ tia_after_write (iterate after_clock n t) number v
unfolding tia_after_write
written-ahead n number v t h k =
    let r = register_of number in
    ap (λ (x : TiaState). iterate after_clock n x) (colour-write r v t h) ∙ (coloured r v n t h k ∙ sym (colour-write r v (iterate after_clock n t) h))
