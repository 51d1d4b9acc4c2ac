-- Rounds of 160 steps.
use Rattle.std.proofs.Common.{◌≡◌, ◌∙◌, ℕ, zero, suc, ◌+◌, ◌-◌, ◌*◌, ◌/◌, ◌%◌, ◌≤◌, false, arith, ap, sym}
use Rattle.tia_chip.proofs.CalmClocks.{still}
use Rattle.tia_chip.proofs.LatchedLines.{objects-alike}
use Rattle.tia_chip.proofs.OwedLemmas.{made-add}
use Rattle.tia_chip.proofs.OwedSteps.{owed-some}
use Rattle.tia_chip.proofs.QuietLines.{ball-line, missile-line, player-line}
use Rattle.tia_chip.proofs.QuietPlayers.{player-steps}
use Rattle.tia_chip.proofs.QuietSteps.{ball-quiet_steps, missile-quiet_steps}
use Rattle.tia_chip.specs.Ball.{ball_after_step, begun_size}
use Rattle.tia_chip.specs.Missile.{missile_after_step}
use Rattle.tia_chip.specs.Motion.{any_moves}
use Rattle.tia_chip.specs.Player.{player_after_step}
use Rattle.tia_chip.specs.Private.Lines.{with_objects}
use Rattle.tia_chip.specs.Private.Owed.{AreQuiet, after_owed, ball_seen, made_steps, missile_seen, player_seen}
use Rattle.tia_chip.specs.Quiet.{IsQuietBall, IsQuietMissile, IsQuietPlayer}
use Rattle.tia_chip.specs.declared.ball.Ball.{Ball}
use Rattle.tia_chip.specs.declared.missile.Missile.{Missile}
use Rattle.tia_chip.specs.declared.player.Player.{Player}
use Rattle.tia_chip.specs.declared.state.TiaState.{TiaState}

-- ---- of a quiet object
player-round : (p : Player) → IsQuietPlayer p → after_owed player_after_step (player_seen false) 160 p ≡ record p { seen = false }
player-round p q = owed-some player_after_step (player_seen false) 160 p (omega arith) ∙ (ap (player_seen false) (player-steps p 160 q) ∙ sym (player-line p q))

missile-round : (nusiz : ℕ) (m : Missile) → IsQuietMissile nusiz m → m.moves ≡ false → after_owed (missile_after_step nusiz 0) (missile_seen false) 160 m ≡ record m { seen = false }
missile-round nusiz m q s =
    owed-some (missile_after_step nusiz 0) (missile_seen false) 160 m (omega arith)
    ∙ (ap (missile_seen false) (missile-quiet_steps 160 nusiz 0 m q s) ∙ sym (missile-line nusiz m q))

ball-round : (ctrlpf : ℕ) (b : Ball) → IsQuietBall ctrlpf b → b.moves ≡ false
    → after_owed (ball_after_step ctrlpf false) (ball_seen false) 160 b ≡ record b { own_size = begun_size ctrlpf b.phase; seen = false }
ball-round ctrlpf b q s =
    owed-some (ball_after_step ctrlpf false) (ball_seen false) 160 b (omega arith)
    ∙ (ap (ball_seen false) (ball-quiet_steps 160 ctrlpf b q s) ∙ sym (ball-line ctrlpf b q))

-- ---- of a TIA
rounded : TiaState → TiaState
rounded t =
    with_objects t (record t.player0 { seen = false }) (record t.player1 { seen = false }) (record t.missile0 { seen = false })
    (record t.missile1 { seen = false }) (record t.ball { own_size = begun_size t.ctrlpf t.ball.phase; seen = false })

made-round : (t : TiaState) → AreQuiet t → any_moves t ≡ false → made_steps 160 false t ≡ rounded t
unfolding rounded
made-round t q h =
    let s = made_steps 160 false t in
    let r = rounded t in
    let motion = still t h in
    objects-alike t s.player0 r.player0 s.player1 r.player1 s.missile0 r.missile0 s.missile1 r.missile1 s.ball r.ball
    (player-round t.player0 q.player0) (player-round t.player1 q.player1)
    (missile-round t.player0.nusiz t.missile0 q.missile0 motion.missile0) (missile-round t.player1.nusiz t.missile1 q.missile1 motion.missile1)
    (ball-round t.ctrlpf t.ball q.ball motion.ball)

quiet-rounded : (t : TiaState) → AreQuiet t → AreQuiet (rounded t)
unfolding rounded
quiet-rounded t q = record {
  player0 = record { counter = q.player0.counter; width = q.player0.width; change = q.player0.change; copy = q.player0.copy };
  player1 = record { counter = q.player1.counter; width = q.player1.width; change = q.player1.change; copy = q.player1.copy };
  missile0 = record { counter = q.missile0.counter; copy = q.missile0.copy };
  missile1 = record { counter = q.missile1.counter; copy = q.missile1.copy };
  ball = record { counter = q.ball.counter; place = q.ball.place };
}

-- a second round changes nothing
second-round : (t : TiaState) → AreQuiet t → any_moves t ≡ false → made_steps 160 false (made_steps 160 false t) ≡ made_steps 160 false t
unfolding rounded
second-round t q h =
    let r = made-round t q h in
    ap (made_steps 160 false) r ∙ (made-round (rounded t) (quiet-rounded t q) h ∙ sym r)

-- where a round of steps changes nothing, more rounds don't either
pub made-rounds : (q n k : ℕ) (t : TiaState) → made_steps n false t ≡ t → made_steps (n * q + k) false t ≡ made_steps k false t
made-rounds zero n k t e = let z : n * zero + k ≡ k = omega arith in ap (λ (m : ℕ). made_steps m false t) z
made-rounds (suc q) n k t e =
    let more : n * suc q + k ≡ n + (n * q + k) = omega arith in
    ap (λ (m : ℕ). made_steps m false t) more
    ∙ (sym (made-add n (n * q + k) t) ∙ (ap (λ (u : TiaState). made_steps (n * q + k) false u) e ∙ made-rounds q n k t e))

-- 160 steps, of a TIA whose objects are quiet then 160 more, and the others but for rounds
pub rounds-left : (n : ℕ) (t : TiaState) → 320 ≤ n → AreQuiet (made_steps 160 false t) → any_moves (made_steps 160 false t) ≡ false
    → made_steps ((n - 320) % 160) false (made_steps 160 false (made_steps 160 false t)) ≡ made_steps n false t
rounds-left n t l q h =
    let u = made_steps 160 false t in
    let v = made_steps 160 false u in
    let k : ℕ = (n - 320) % 160 in
    let parts : 160 * ((n - 320) / 160) + k ≡ n - 320 = omega arith in
    let one : 160 + (n - 320) ≡ n - 160 = omega arith in
    let two : 160 + (n - 160) ≡ n = omega arith in
    sym (made-rounds ((n - 320) / 160) 160 k v (second-round u q h))
    ∙ (ap (λ (m : ℕ). made_steps m false v) parts
    ∙ (made-add 160 (n - 320) u ∙ (ap (λ (m : ℕ). made_steps m false u) one ∙ (made-add 160 (n - 160) t ∙ ap (λ (m : ℕ). made_steps m false t) two))))
