-- Writes on their way that will change nothing: the registers that wait stay as they are, and the clocks
-- are those without the write.
use Rattle.std.proofs.Common.{◌≡◌, ◌∙◌, ℕ, zero, suc, ◌+◌, ◌-◌, ◌%◌, ◌<◌, ◌==◌, ◌&&◌, ◌||◌, inl, inr, Bool, true, false, arith, refl, ap, sym, Option, Some, None}
use Rattle.std.proofs.lemmas.Bool.{and_parts, and_right, cases_lt, cond-false, cond-true, cond_both, eq-eqb, eqb-true, le-leb}
use Rattle.std.proofs.lemmas.Bool.Decides.{nat_tests}
use Rattle.std.specs.Fn.{iterate}
use Rattle.std.specs.Prelude.{nat_le, nat_lt}
use Rattle.tia_chip.proofs.AtRestLemmas.{ball-unchanged, missile-unchanged, player-unchanged}
use Rattle.tia_chip.proofs.ClocksLemmas.{iterate-add, sink-add}
use Rattle.tia_chip.proofs.QuietAges.{alike-three}
use Rattle.tia_chip.proofs.WaitingLemmas.{acts-clock, acts-pixel, free-waiting, late-pixel, late-state, late-write, none-stays, stays-none, waited-sink, waited-state, waiting-of}
use Rattle.tia_chip.specs.Ball.{ball_after_step, is_ball_changed}
use Rattle.tia_chip.specs.Blank.{is_in_blank}
use Rattle.tia_chip.specs.Clock.{after_clock, at_line_start, at_next_clock, at_pixel, stepped, with_next_clock}
use Rattle.tia_chip.specs.Clocks.{sink_after_clocks, with_pixel}
use Rattle.tia_chip.specs.Collision.{latched}
use Rattle.tia_chip.specs.Colour.{pixel_of}
use Rattle.tia_chip.specs.Counter.{begins_copy, next_counter}
use Rattle.tia_chip.specs.Missile.{is_missile_changed}
use Rattle.tia_chip.specs.Motion.{any_moves, ball_after_pulse, missile_after_pulse, player_after_pulse, pulsed, still_moves}
use Rattle.tia_chip.specs.Player.{copy_after_step, counts_for_change, is_player_changed, looked_at_player, player_after_step}
use Rattle.tia_chip.specs.Playfield.{with_playfield}
use Rattle.tia_chip.specs.Private.Late.{BallRegisters, PlayerRegisters, Written, acts_late, ball_registers, gives_way, is_there, player_registers, waits_after, written_of}
use Rattle.tia_chip.specs.Registers.{delay_of, register_bits, register_of}
use Rattle.tia_chip.specs.Write.{after_action, is_changed, player_after_write, tia_after_write, with_changes, with_hmove_in, with_waited, with_waited_write, with_waited_writes}
use Rattle.tia_chip.specs.declared.ball.Ball.{Ball}
use Rattle.tia_chip.specs.declared.missile.Missile.{Missile}
use Rattle.tia_chip.specs.declared.player.Player.{Player}
use Rattle.tia_chip.specs.declared.register.Register.{Register}
use Rattle.tia_chip.specs.declared.register.Register.TheVariants.{Refp0, Refp1, Pf0, Pf1, Pf2, Grp0, Grp1, Enam0, Enam1, Enabl}
use Rattle.tia_chip.specs.declared.state.TiaState.{TiaState}
use Rattle.tia_chip.specs.declared.waiting.Waiting.{Waiting}

-- ---- a clock keeps the registers
player-steps : (p : Player) → player_registers (player_after_step p) ≡ player_registers p
player-steps p =
    let next = record (looked_at_player p) { counter = next_counter p.counter; copy = copy_after_step p } in
    cond_both (counts_for_change p) _ _ (λ (q : Player). player_registers q ≡ player_registers p)
    (λ e. cond_both (next.change == 1) _ _ (λ (q : Player). player_registers q ≡ player_registers p) (λ f. refl) (λ f. refl)) (λ e. refl)

player-pulse : (t : TiaState) (p : Player) → player_registers (player_after_pulse t p) ≡ player_registers p
player-pulse t p =
    let now = record p { moves = p.moves && still_moves p.hmp t.pulses } in
    cond_both (now.moves && is_in_blank t) _ _ (λ (q : Player). player_registers q ≡ player_registers p) (λ e. player-steps now) (λ e. refl)

missile-pulse : (t : TiaState) (nusiz : ℕ) (m : Missile) → (missile_after_pulse t nusiz m).enam ≡ m.enam
missile-pulse t nusiz m =
    let now = record m { moves = m.moves && still_moves m.hmm t.pulses } in
    cond_both (now.moves && is_in_blank t) _ _ (λ (n : Missile). n.enam ≡ m.enam) (λ e. refl) (λ e. refl)

ball-steps : (ctrlpf : ℕ) (blank : Bool) (b : Ball) → ball_registers (ball_after_step ctrlpf blank b) ≡ ball_registers b
ball-steps ctrlpf blank b = cond_both (begins_copy 0 b.counter) _ _ (λ (c : Ball). ball_registers c ≡ ball_registers b) (λ e. refl) (λ e. refl)

ball-pulse : (t : TiaState) (b : Ball) → ball_registers (ball_after_pulse t b) ≡ ball_registers b
ball-pulse t b =
    let now = record b { moves = b.moves && still_moves b.hmbl t.pulses; phase = b.counter % 4 } in
    cond_both (now.moves && is_in_blank t) _ _ (λ (c : Ball). ball_registers c ≡ ball_registers b) (λ e. ball-steps t.ctrlpf true now) (λ e. refl)

abbrev parts : TiaState → PlayerRegisters → PlayerRegisters → ℕ → ℕ → BallRegisters → Written
parts t player0 player1 enam0 enam1 ball =
    record { pf0 = t.pf0; pf1 = t.pf1; pf2 = t.pf2; player0 = player0; player1 = player1; enam0 = enam0; enam1 = enam1; ball = ball }

parts-alike : (t : TiaState) (p p' q q' : PlayerRegisters) (m m' n n' : ℕ) (b b' : BallRegisters) → p ≡ p' → q ≡ q' → m ≡ m' → n ≡ n' → b ≡ b'
    → parts t p q m n b ≡ parts t p' q' m' n' b'
parts-alike t p p' q q' m m' n n' b b' e f g h i = cc

abbrev Keeps : TiaState → TiaState → Type 0
Keeps t u = written_of u ≡ written_of t

hmove-keeps : (o : Option ℕ) (t : TiaState) → Keeps t (with_hmove_in o t)
hmove-keeps None t = refl
hmove-keeps (Some clocks) t = cond_both (clocks == 0) _ _ (Keeps t) (λ e. refl) (λ e. refl)

start-keeps : (t : TiaState) → Keeps t (at_line_start t)
start-keeps t = cond_both (t.clock == 0) _ _ (Keeps t) (λ e. refl) (λ e. refl)

pulse-keeps : (t : TiaState) → Keeps t (pulsed t)
pulse-keeps t =
    cond_both ((t.clock % 4 == 0) && any_moves t) _ _ (Keeps t)
    (λ e. parts-alike t (player_registers (player_after_pulse t t.player0)) (player_registers t.player0)
    (player_registers (player_after_pulse t t.player1)) (player_registers t.player1)
    (missile_after_pulse t t.player0.nusiz t.missile0).enam t.missile0.enam (missile_after_pulse t t.player1.nusiz t.missile1).enam t.missile1.enam
    (ball_registers (ball_after_pulse t t.ball)) (ball_registers t.ball)
    (player-pulse t t.player0) (player-pulse t t.player1) (missile-pulse t t.player0.nusiz t.missile0) (missile-pulse t t.player1.nusiz t.missile1) (ball-pulse t t.ball))
    (λ e. refl)

field-keeps : (t : TiaState) → Keeps t (with_playfield t)
field-keeps t =
    cond_both (nat_lt t.clock 68) _ _ (Keeps t) (λ e. refl)
    (λ e. cond_both (nat_le 225 t.clock && t.longer) _ _ (Keeps t) (λ f. refl)
    (λ f. cond_both ((t.beam - 68) % 4 == 0) _ _ (Keeps t) (λ g. refl) (λ g. refl)))

step-keeps : (t : TiaState) → Keeps t (stepped t)
step-keeps t =
    cond_both (is_in_blank t) _ _ (Keeps t) (λ e. refl)
    (λ e. parts-alike t (player_registers (player_after_step t.player0)) (player_registers t.player0)
    (player_registers (player_after_step t.player1)) (player_registers t.player1) t.missile0.enam t.missile0.enam t.missile1.enam t.missile1.enam
    (ball_registers (ball_after_step t.ctrlpf false t.ball)) (ball_registers t.ball)
    (player-steps t.player0) (player-steps t.player1) refl refl (ball-steps t.ctrlpf false t.ball))

next-keeps : (t : TiaState) → Keeps t (with_next_clock t)
next-keeps t =
    cond_both (t.clock == 227) _ _ (Keeps t) (λ e. refl)
    (λ e. cond_both (is_in_blank (at_next_clock t)) _ _ (Keeps t) (λ f. refl) (λ f. refl))

clock-keeps : (t : TiaState) → t.waiting ≡ None → Keeps t (after_clock t)
unfolding after_clock at_pixel
clock-keeps t h =
    let a = with_waited_write t in
    let b = with_waited_writes t in
    let c = at_line_start b in
    let d = pulsed c in
    let e = with_playfield d in
    next-keeps (latched (stepped e))
    ∙ (step-keeps e ∙ (field-keeps d ∙ (pulse-keeps c ∙ (start-keeps b ∙ (hmove-keeps a.hmove a ∙ ap (λ o. written_of (with_waited o t)) h)))))

clocks-keep : (n : ℕ) (t : TiaState) → t.waiting ≡ None → Keeps t (iterate after_clock n t)
clocks-keep zero t h = refl
clocks-keep (suc n) t h = clocks-keep n (after_clock t) (none-stays t h) ∙ clock-keeps t h

-- ---- an act that changes nothing
none-of-five : (a b c d e : Bool) → a ≡ false → b ≡ false → c ≡ false → d ≡ false → e ≡ false → (a || b || c || d || e) ≡ false
none-of-five a b c d e f g h i j = rw (f, g, h, i, j) refl

or-false : (a b : Bool) → b ≡ false → (a || b) ≡ a
or-false true b e = refl
or-false false b e = e

pub unchanged : (t : TiaState) → with_changes t t ≡ t
unchanged t =
    let none = none-of-five (is_player_changed t.player0 t.player0) (is_player_changed t.player1 t.player1) (is_missile_changed t.missile0 t.missile0) (is_missile_changed t.missile1 t.missile1) (is_ball_changed t.ball t.ball)
    (player-unchanged t.player0) (player-unchanged t.player1) (missile-unchanged t.missile0) (missile-unchanged t.missile1) (ball-unchanged t.ball) in
    alike-three (λ (p q : Player) (c : Bool). record t { player0 = p; player1 = q; changed = c })
    (player_after_write (is_in_blank t) t.player0 t.player0) t.player0 (player_after_write (is_in_blank t) t.player1 t.player1) t.player1 (t.changed || is_changed t t) t.changed
    (cond-false (is_in_blank t && is_player_changed t.player0 t.player0) _ _ (and_right (is_in_blank t) (is_player_changed t.player0 t.player0) (player-unchanged t.player0)))
    (cond-false (is_in_blank t && is_player_changed t.player1 t.player1) _ _ (and_right (is_in_blank t) (is_player_changed t.player1 t.player1) (player-unchanged t.player1)))
    (or-false t.changed (is_changed t t) none)

acts-as : (t u : TiaState) → u ≡ t → with_changes t u ≡ t
acts-as t u e = ap (λ (x : TiaState). with_changes t x) e ∙ unchanged t

there-acts : (r : Register) (v : ℕ) (t : TiaState) → is_there r v (written_of t) ≡ true → after_action r v t ≡ t
there-acts Refp0 v t h = acts-as t _ (ap (λ (n : ℕ). record t { player0 = record t.player0 { refp = n } }) (sym (eqb-true t.player0.refp (register_bits Refp0 v) h)))
there-acts Refp1 v t h = acts-as t _ (ap (λ (n : ℕ). record t { player1 = record t.player1 { refp = n } }) (sym (eqb-true t.player1.refp (register_bits Refp1 v) h)))
there-acts Pf0 v t h = acts-as t _ (ap (λ (n : ℕ). record t { pf0 = n }) (sym (eqb-true t.pf0 (register_bits Pf0 v) h)))
there-acts Pf1 v t h = acts-as t _ (ap (λ (n : ℕ). record t { pf1 = n }) (sym (eqb-true t.pf1 (register_bits Pf1 v) h)))
there-acts Pf2 v t h = acts-as t _ (ap (λ (n : ℕ). record t { pf2 = n }) (sym (eqb-true t.pf2 (register_bits Pf2 v) h)))
there-acts Grp0 v t h =
    let both = and_parts (t.player0.grp_new == register_bits Grp0 v) (t.player1.grp_old == t.player1.grp_new) h in
    acts-as t _ (alike-three (λ (n old k : ℕ). record t { player0 = record t.player0 { grp_new = n }; player1 = record t.player1 { grp_old = old } })
    (register_bits Grp0 v) t.player0.grp_new t.player1.grp_new t.player1.grp_old 0 0
    (sym (eqb-true t.player0.grp_new (register_bits Grp0 v) both.0)) (sym (eqb-true t.player1.grp_old t.player1.grp_new both.1)) refl)
there-acts Grp1 v t h =
    let all = and_parts (t.player1.grp_new == register_bits Grp1 v && t.player0.grp_old == t.player0.grp_new) (t.ball.enabl_old == t.ball.enabl_new) h in
    let both = and_parts (t.player1.grp_new == register_bits Grp1 v) (t.player0.grp_old == t.player0.grp_new) all.0 in
    acts-as t _ (alike-three (λ (n old enabl : ℕ). record t { player1 = record t.player1 { grp_new = n }; player0 = record t.player0 { grp_old = old }; ball = record t.ball { enabl_old = enabl } })
    (register_bits Grp1 v) t.player1.grp_new t.player0.grp_new t.player0.grp_old t.ball.enabl_new t.ball.enabl_old
    (sym (eqb-true t.player1.grp_new (register_bits Grp1 v) both.0)) (sym (eqb-true t.player0.grp_old t.player0.grp_new both.1)) (sym (eqb-true t.ball.enabl_old t.ball.enabl_new all.1)))
there-acts Enam0 v t h = acts-as t _ (ap (λ (n : ℕ). record t { missile0 = record t.missile0 { enam = n } }) (sym (eqb-true t.missile0.enam (register_bits Enam0 v) h)))
there-acts Enam1 v t h = acts-as t _ (ap (λ (n : ℕ). record t { missile1 = record t.missile1 { enam = n } }) (sym (eqb-true t.missile1.enam (register_bits Enam1 v) h)))
there-acts Enabl v t h = acts-as t _ (ap (λ (n : ℕ). record t { ball = record t.ball { enabl_new = n } }) (sym (eqb-true t.ball.enabl_new (register_bits Enabl v) h)))
there-acts r v t h = cc

-- ---- clocks with such a write
record IsGone (x u : TiaState) : Type 0 where
  pub clock : after_clock x ≡ after_clock u
  pub pixel : at_pixel x ≡ at_pixel u

gone : (x u : TiaState) (w : Waiting) → x ≡ record u { waiting = Some w } → w.clocks ≡ 0 → u.waiting ≡ None → is_there w.register w.value (written_of u) ≡ true → IsGone x u
gone x u w e z h there =
    let waits : x.waiting ≡ Some w = ap (λ (y : TiaState). y.waiting) e in
    let acted_now : with_waited_write x ≡ u =
    ap (λ o. with_waited o x) waits ∙ (cond-true (w.clocks == 0) _ _ (eq-eqb w.clocks 0 z)
    ∙ (ap (λ (y : TiaState). after_action w.register w.value (record y { waiting = None })) e
    ∙ (ap (λ (y : TiaState). after_action w.register w.value y) (free-waiting u h) ∙ there-acts w.register w.value u there)))
    in
    record {
      clock = sym (acts-clock x w waits z) ∙ ap (λ (y : TiaState). after_clock y) acted_now;
      pixel = sym (acts-pixel x w waits z) ∙ ap (λ (y : TiaState). at_pixel y) acted_now;
    }

-- the TIA without the write
abbrev bare : TiaState → TiaState
bare t = record t { waiting = None }

when-acting : (t : TiaState) (w : Waiting) → t.waiting ≡ Some w → is_there w.register w.value (written_of t) ≡ true
    → IsGone (iterate after_clock w.clocks t) (iterate after_clock w.clocks (bare t))
when-acting t w h there =
    let c = w.clocks in
    let u = iterate after_clock c (bare t) in
    let zero_left : c - c ≡ 0 = omega arith in
    let x : iterate after_clock c t ≡ record u { waiting = Some (record w { clocks = 0 }) } =
    sym (waited-state t w c h (omega arith)) ∙ ap (λ (n : ℕ). record u { waiting = Some (record w { clocks = n }) }) zero_left
    in
    gone (iterate after_clock c t) u (record w { clocks = 0 }) x refl (stays-none c (bare t) refl)
    (ap (λ (v : Written). is_there w.register w.value v) (clocks-keep c (bare t) refl) ∙ there)

past-state : (t : TiaState) (w : Waiting) (m : ℕ) → t.waiting ≡ Some w → is_there w.register w.value (written_of t) ≡ true
    → iterate after_clock (w.clocks + suc m) (bare t) ≡ iterate after_clock (w.clocks + suc m) t
past-state t w m h there =
    let g = when-acting t w h there in
    iterate-add after_clock w.clocks (suc m) (bare t)
    ∙ (sym (ap (λ (x : TiaState). iterate after_clock m x) g.clock) ∙ sym (iterate-add after_clock w.clocks (suc m) t))

past-sink : {S : Type 0} (drawn : S → ℕ → ℕ → ℕ → S) (sink : S) (t : TiaState) (w : Waiting) (m : ℕ) → t.waiting ≡ Some w → is_there w.register w.value (written_of t) ≡ true
    → sink_after_clocks drawn sink (w.clocks + suc m) (bare t) ≡ sink_after_clocks drawn sink (w.clocks + suc m) t
past-sink drawn sink t w m h there =
    let g = when-acting t w h there in
    let c = w.clocks in
    let x = iterate after_clock c t in
    let u = iterate after_clock c (bare t) in
    let before = sink_after_clocks drawn sink c (bare t) in
    let put = with_pixel drawn before (pixel_of (at_pixel x)) in
    sink-add drawn sink c (suc m) (bare t)
    ∙ (sym (ap (λ (y : TiaState). sink_after_clocks drawn (with_pixel drawn before (pixel_of y)) m (after_clock u)) g.pixel)
    ∙ (sym (ap (λ (y : TiaState). sink_after_clocks drawn put m y) g.clock)
    ∙ (ap (λ s. sink_after_clocks drawn s (suc m) x) (waited-sink drawn sink t w c h (omega arith)) ∙ sym (sink-add drawn sink c (suc m) t))))

past-end : (c n : ℕ) → c < n → nat_le n c ≡ false
past-end c n l = grind (arith, nat_tests)

pub there-state : (t : TiaState) (w : Waiting) (n : ℕ) → t.waiting ≡ Some w → is_there w.register w.value (written_of t) ≡ true
    → record (iterate after_clock n (bare t)) { waiting = waits_after n w } ≡ iterate after_clock n t
there-state t w n h there =
    let after = iterate after_clock n (bare t) in
    elim (cases_lt w.clocks n) [
      | inl l ↦ let m : ℕ = n - w.clocks - 1 in
          let sum : w.clocks + suc m ≡ n = omega arith in
          ap (λ o. record after { waiting = o }) (cond-false (nat_le n w.clocks) _ _ (past-end w.clocks n l))
          ∙ (free-waiting after (stays-none n (bare t) refl)
          ∙ (ap (λ (k : ℕ). iterate after_clock k (bare t)) (sym sum) ∙ (past-state t w m h there ∙ ap (λ (k : ℕ). iterate after_clock k t) sum)))
      | inr l ↦ ap (λ o. record after { waiting = o }) (cond-true (nat_le n w.clocks) _ _ (le-leb n w.clocks l)) ∙ waited-state t w n h l
    ]

pub there-sink : {S : Type 0} (drawn : S → ℕ → ℕ → ℕ → S) (sink : S) (t : TiaState) (w : Waiting) (n : ℕ) → t.waiting ≡ Some w → is_there w.register w.value (written_of t) ≡ true
    → sink_after_clocks drawn sink n (bare t) ≡ sink_after_clocks drawn sink n t
there-sink drawn sink t w n h there =
    elim (cases_lt w.clocks n) [
      | inl l ↦ let m : ℕ = n - w.clocks - 1 in
          let sum : w.clocks + suc m ≡ n = omega arith in
          ap (λ (k : ℕ). sink_after_clocks drawn sink k (bare t)) (sym sum) ∙ (past-sink drawn sink t w m h there ∙ ap (λ (k : ℕ). sink_after_clocks drawn sink k t) sum)
      | inr l ↦ waited-sink drawn sink t w n h l
    ]

pub there-dot : (t : TiaState) (w : Waiting) (n : ℕ) → t.waiting ≡ Some w → is_there w.register w.value (written_of t) ≡ true
    → pixel_of (at_pixel (iterate after_clock n (bare t))) ≡ pixel_of (at_pixel (iterate after_clock n t))
there-dot t w n h there = elim (cases_lt n w.clocks) [
  | inl l ↦ let whole : record t { waiting = Some w } ≡ t = ap (λ o. record t { waiting = o }) (sym h) in
      sym (late-pixel n w.clocks 0 (bare t) w refl l (omega arith)) ∙ ap (λ (x : TiaState). pixel_of (at_pixel (iterate after_clock n x))) whole
  | inr l ↦ elim (cases_lt w.clocks n) [
    | inl m ↦ let k : ℕ = n - w.clocks - 1 in
        let sum : w.clocks + suc k ≡ n = omega arith in
        ap (λ (i : ℕ). pixel_of (at_pixel (iterate after_clock i (bare t)))) (sym sum)
        ∙ (ap (λ (x : TiaState). pixel_of (at_pixel x)) (past-state t w k h there) ∙ ap (λ (i : ℕ). pixel_of (at_pixel (iterate after_clock i t))) sum)
    | inr m ↦ let now : w.clocks ≡ n = omega arith in
        ap (λ (i : ℕ). pixel_of (at_pixel (iterate after_clock i (bare t)))) (sym now)
        ∙ (ap pixel_of (sym (when-acting t w h there).pixel) ∙ ap (λ (i : ℕ). pixel_of (at_pixel (iterate after_clock i t))) now)
  ]
]

-- ---- a write that is put on its way where none is, or one that changes nothing
there-late : (lag number v : ℕ) (t : TiaState) (w new : Waiting) → t.waiting ≡ Some w → is_there w.register w.value (written_of t) ≡ true → acts_late (register_of number) ≡ true
    → new ≡ waiting-of (register_of number) v (lag + delay_of (register_of number)) → iterate after_clock lag (record t { waiting = Some new }) ≡ tia_after_write (iterate after_clock lag t) number v
unfolding tia_after_write
there-late lag number v t w new h there l e =
    let r = register_of number in
    let now = Some (waiting-of r v (delay_of r)) in
    late-state lag number v (bare t) new refl l e
    ∙ (late-write r v (iterate after_clock lag (bare t)) l
    ∙ (ap (λ (x : TiaState). record x { waiting = now }) (there-state t w lag h there) ∙ sym (late-write r v (iterate after_clock lag t) l)))

pub way-late : (o : Option Waiting) (lag number v : ℕ) (t : TiaState) (new : Waiting) → t.waiting ≡ o → gives_way o (written_of t) ≡ true → acts_late (register_of number) ≡ true
    → new ≡ waiting-of (register_of number) v (lag + delay_of (register_of number)) → iterate after_clock lag (record t { waiting = Some new }) ≡ tia_after_write (iterate after_clock lag t) number v
way-late None lag number v t new h way l e = late-state lag number v t new h l e
way-late (Some w) lag number v t new h way l e = there-late lag number v t w new h way l e

pub way-dot : (o : Option Waiting) (n lag d : ℕ) (t : TiaState) (new : Waiting) → t.waiting ≡ o → gives_way o (written_of t) ≡ true → n < lag → new.clocks ≡ lag + d
    → pixel_of (at_pixel (iterate after_clock n (record t { waiting = Some new }))) ≡ pixel_of (at_pixel (iterate after_clock n t))
way-dot None n lag d t new h way l e = late-pixel n lag d t new h l e
way-dot (Some w) n lag d t new h way l e = late-pixel n lag d (bare t) new refl l e ∙ there-dot t w n h way
