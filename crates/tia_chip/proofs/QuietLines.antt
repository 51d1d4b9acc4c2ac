-- The steps of a line lead a quiet object to where it is.
use Rattle.std.proofs.Common.{◌≡◌, ◌∙◌, ℕ, ◌-◌, ◌%◌, Bool, true, false, refl, arith, ap, sym, Option, if◌then◌else◌}
use Rattle.std.proofs.lemmas.Bool.{cond-true, lt-ltb}
use Rattle.tia_chip.proofs.QuietAges.{alike-three}
use Rattle.tia_chip.specs.Ball.{begun_size}
use Rattle.tia_chip.specs.Quiet.{IsQuietBall, IsQuietMissile, IsQuietPlayer, ball_place_at, begins_within, counter_after, missile_copy_at, player_copy_at}
use Rattle.tia_chip.specs.Quiet.{quiet_ball_after, quiet_missile_after, quiet_player_after}
use Rattle.tia_chip.specs.declared.ball.Ball.{Ball}
use Rattle.tia_chip.specs.declared.missile.Missile.{Missile}
use Rattle.tia_chip.specs.declared.missile.MissileCopy.{MissileCopy}
use Rattle.tia_chip.specs.declared.player.Player.{Player}
use Rattle.tia_chip.specs.declared.player.PlayerCopy.{PlayerCopy}

pub player-line : (p : Player) → IsQuietPlayer p → record p { seen = false } ≡ record (quiet_player_after 160 p) { seen = false }
player-line p q =
    let few = q.counter in
    let round : p.counter ≡ counter_after 160 p.counter = omega arith in
    alike-three (λ (counter : ℕ) (copy : Option PlayerCopy) (seen : Bool). record p { counter = counter; copy = copy; seen = seen })
    p.counter (counter_after 160 p.counter) p.copy (player_copy_at p (counter_after 160 p.counter)) false false round (q.copy ∙ ap (player_copy_at p) round) refl

pub missile-line : (nusiz : ℕ) (m : Missile) → IsQuietMissile nusiz m → record m { seen = false } ≡ record (quiet_missile_after nusiz 160 m) { seen = false }
missile-line nusiz m q =
    let few = q.counter in
    let round : m.counter ≡ counter_after 160 m.counter = omega arith in
    alike-three (λ (counter : ℕ) (copy : Option MissileCopy) (seen : Bool). record m { counter = counter; copy = copy; seen = seen })
    m.counter (counter_after 160 m.counter) m.copy (missile_copy_at nusiz m (counter_after 160 m.counter)) false false round (q.copy ∙ ap (missile_copy_at nusiz m) round) refl

pub ball-line : (ctrlpf : ℕ) (b : Ball) → IsQuietBall ctrlpf b → record b { own_size = begun_size ctrlpf b.phase; seen = false } ≡ record (quiet_ball_after ctrlpf 160 b) { seen = false }
ball-line ctrlpf b q =
    let few = q.counter in
    let round : b.counter ≡ counter_after 160 b.counter = omega arith in
    let within : begins_within 160 b.counter ≡ true = lt-ltb ((316 - b.counter) % 160) 160 (omega arith) in
    alike-three (λ (counter : ℕ) (place : Option ℕ) (own_size : ℕ). record b { counter = counter; place = place; own_size = own_size; seen = false })
    b.counter (counter_after 160 b.counter) b.place (ball_place_at ctrlpf (counter_after 160 b.counter)) (begun_size ctrlpf b.phase) (if begins_within 160 b.counter then begun_size ctrlpf b.phase else b.own_size)
    round (q.place ∙ ap (ball_place_at ctrlpf) round) (sym (cond-true (begins_within 160 b.counter) (begun_size ctrlpf b.phase) b.own_size within))
