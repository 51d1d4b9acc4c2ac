-- Pulses in the blank: a player makes as many steps as the count leaves.
use Rattle.std.proofs.Common.{◌≡◌, ◌∙◌, ◌⊎◌, inl, inr, ℕ, zero, suc, ◌+◌, ◌%◌, ◌==◌, ◌&&◌, not, min, Bool, true, false, arith, refl, ap, sym, if◌then◌else◌}
use Rattle.std.proofs.lemmas.Bool.{cases_Bool, cond-false, cond-true, cond_both, eq-eqb, eqb-false, eqb-true, ne_eqb}
use Rattle.std.specs.Fn.{iterate}
use Rattle.tia_chip.proofs.QuietAges.{below-alike, table}
use Rattle.tia_chip.proofs.UnderwayPlayers.{stepped-moves}
use Rattle.tia_chip.specs.Blank.{is_in_blank}
use Rattle.tia_chip.specs.Counter.{next_counter}
use Rattle.tia_chip.specs.Motion.{player_after_pulse, pulses_of, still_moves}
use Rattle.tia_chip.specs.Player.{copy_after_step, counts_for_change, looked_at_player, player_after_step}
use Rattle.tia_chip.specs.Pulses.{moving_steps, player_after_pulses, pulsed_player}
use Rattle.tia_chip.specs.declared.player.Player.{Player}
use Rattle.tia_chip.specs.declared.state.TiaState.{TiaState}

stepped-hmp : (p : Player) → (player_after_step p).hmp ≡ p.hmp
stepped-hmp p =
    let next = record (looked_at_player p) { counter = next_counter p.counter; copy = copy_after_step p } in
    cond_both (counts_for_change p) _ _ (λ (q : Player). q.hmp ≡ p.hmp)
    (λ e. cond_both (next.change == 1) _ _ (λ (q : Player). q.hmp ≡ p.hmp) (λ f. refl) (λ f. refl)) (λ e. refl)

-- a player by whether it moves
unfoldable pub with-moves : Bool → Player → Player
with-moves moves p = record p { moves = moves }

pub moving : (p : Player) → p.moves ≡ true → with-moves true p ≡ p
unfolding with-moves
moving p h = ap (λ (moves : Bool). record p { moves = moves }) (sym h)

pulse-by : Bool → Player → Player
pulse-by moves p = if moves then player_after_step (record p { moves = moves }) else record p { moves = moves }

is-pulse : (pulses : ℕ) (p : Player) → pulsed_player pulses p ≡ pulse-by (p.moves && still_moves p.hmp pulses) p
unfolding pulse-by
is-pulse pulses p = refl

and-by : (a b c : Bool) → a ≡ true → b ≡ c → (a && b) ≡ c
and-by a b c h k = rw (h, k) refl

pulse-steps : (pulses : ℕ) (p : Player) → p.moves ≡ true → still_moves p.hmp pulses ≡ true → pulsed_player pulses p ≡ player_after_step p
unfolding pulse-by with-moves
pulse-steps pulses p h k =
    is-pulse pulses p ∙ (ap (λ (b : Bool). pulse-by b p) (and-by p.moves (still_moves p.hmp pulses) true h k) ∙ ap (λ (q : Player). player_after_step q) (moving p h))

pulse-stops : (pulses : ℕ) (p : Player) → p.moves ≡ true → still_moves p.hmp pulses ≡ false → pulsed_player pulses p ≡ with-moves false p
unfolding pulse-by with-moves
pulse-stops pulses p h k = is-pulse pulses p ∙ ap (λ (b : Bool). pulse-by b p) (and-by p.moves (still_moves p.hmp pulses) false h k)

-- one that doesn't move stays
pub stopped : (n pulses : ℕ) (p : Player) → player_after_pulses pulses n (with-moves false p) ≡ with-moves false p
unfolding with-moves
stopped zero pulses p = refl
stopped (suc n) pulses p = stopped n (min (pulses + 1) 16) p

same-by : (m n : ℕ) → ((m == n) ≡ true) ⊎ ((m == n) ≡ false) → (m == n) ≡ (suc m == suc n)
same-by m n (inl e) = e ∙ sym (eq-eqb (suc m) (suc n) (omega (arith, eqb-true m n e)))
same-by m n (inr e) = e ∙ sym (ne_eqb (suc m) (suc n) (λ f. eqb-false m n e (omega arith)))

same-suc : (m n : ℕ) → (m == n) ≡ (suc m == suc n)
same-suc m n = same-by m n (cases_Bool (m == n))

-- the player after as many steps, of n pulses
after : ℕ → ℕ → Player → Player
after steps n p = record (iterate player_after_step steps p) { moves = steps == n }

not-turned : (b : Bool) → not b ≡ true → b ≡ false
not-turned true h = sym h
not-turned false h = refl

not-still : (b : Bool) → not b ≡ false → b ≡ true
not-still true h = refl
not-still false h = sym h

pulses-by : (n pulses : ℕ) (p : Player) → p.moves ≡ true → (still_moves p.hmp pulses ≡ true) ⊎ (still_moves p.hmp pulses ≡ false)
    → ((q : Player) → q.moves ≡ true → player_after_pulses (min (pulses + 1) 16) n q ≡ after (moving_steps (pulses_of q.hmp) (min (pulses + 1) 16) n) n q)
    → player_after_pulses pulses (suc n) p ≡ after (moving_steps (pulses_of p.hmp) pulses (suc n)) (suc n) p
unfolding after with-moves
pulses-by n pulses p h (inl k) later =
    let m = moving_steps (pulses_of p.hmp) (min (pulses + 1) 16) n in
    let steps : moving_steps (pulses_of p.hmp) pulses (suc n) ≡ suc m = cond-false (pulses_of p.hmp == pulses % 16) _ _ (not-turned (pulses_of p.hmp == pulses % 16) k) in
    ap (λ (q : Player). player_after_pulses (min (pulses + 1) 16) n q) (pulse-steps pulses p h k)
    ∙ (later (player_after_step p) (stepped-moves p ∙ h)
    ∙ (ap (λ (hmp : ℕ). after (moving_steps (pulses_of hmp) (min (pulses + 1) 16) n) n (player_after_step p)) (stepped-hmp p)
    ∙ (ap (λ (b : Bool). record (iterate player_after_step (suc m) p) { moves = b }) (same-suc m n)
    ∙ ap (λ (k : ℕ). after k (suc n) p) (sym steps))))
pulses-by n pulses p h (inr k) later =
    let steps : moving_steps (pulses_of p.hmp) pulses (suc n) ≡ 0 = cond-true (pulses_of p.hmp == pulses % 16) _ _ (not-still (pulses_of p.hmp == pulses % 16) k) in
    ap (λ (q : Player). player_after_pulses (min (pulses + 1) 16) n q) (pulse-stops pulses p h k)
    ∙ (stopped n (min (pulses + 1) 16) p
    ∙ (ap (λ (b : Bool). record p { moves = b }) (sym (ne_eqb 0 (suc n) (λ e. omega arith)))
    ∙ ap (λ (k : ℕ). after k (suc n) p) (sym steps)))

pulses-players : (n pulses : ℕ) (p : Player) → p.moves ≡ true → player_after_pulses pulses n p ≡ after (moving_steps (pulses_of p.hmp) pulses n) n p
unfolding after with-moves
pulses-players zero pulses p h = sym (moving p h)
pulses-players (suc n) pulses p h =
    pulses-by n pulses p h (cases_Bool (still_moves p.hmp pulses)) (λ q k. pulses-players n (min (pulses + 1) 16) q k)

pub player-pulses : (p : Player) (pulses n : ℕ) → p.moves ≡ true
    → player_after_pulses pulses n p ≡ record (iterate player_after_step (moving_steps (pulses_of p.hmp) pulses n) p) { moves = moving_steps (pulses_of p.hmp) pulses n == n }
unfolding after
player-pulses p pulses n h = pulses-players n pulses p h

-- a pulse of a TIA in the blank
and-true : (b : Bool) → (b && true) ≡ b
and-true true = refl
and-true false = refl

pub player-pulse : (t : TiaState) (p : Player) → is_in_blank t ≡ true → player_after_pulse t p ≡ pulsed_player t.pulses p
player-pulse t p e =
    let now = record p { moves = p.moves && still_moves p.hmp t.pulses } in
    ap (λ (b : Bool). if now.moves && b then player_after_step now else now) e
    ∙ ap (λ (b : Bool). if b then player_after_step now else now) (and-true now.moves)

-- all pulses of a blank
all-row : table (λ most. moving_steps most 0 16) 16 ≡ table (λ most. most) 16
unfolding table
all-row = refl

pub all-pulses : (motion : ℕ) → moving_steps (pulses_of motion) 0 16 ≡ pulses_of motion
all-pulses motion = below-alike (λ most. moving_steps most 0 16) (λ most. most) 16 (pulses_of motion) all-row (omega arith)
