-- The pixels of quiet objects, and what they are after n clocks of the picture.
use Rattle.std.proofs.Common.{◌≡◌, ◌∙◌, ℕ, suc, ◌+◌, ◌%◌, ◌<◌, ◌&&◌, ◌||◌, not, Bool, true, false, ap}
use Rattle.std.specs.Fn.{iterate}
use Rattle.std.specs.Prelude.{nat_le}
use Rattle.tia_chip.proofs.CalmClocks.{clocks-picture, clocks-pixel, still}
use Rattle.tia_chip.proofs.QuietBall.{ball-steps}
use Rattle.tia_chip.proofs.QuietMissiles.{missile-steps}
use Rattle.tia_chip.proofs.QuietPlayers.{player-steps}
use Rattle.tia_chip.specs.Ball.{is_ball_lit}
use Rattle.tia_chip.specs.Calm.{IsCalmInPicture}
use Rattle.tia_chip.specs.Clock.{after_clock, at_pixel}
use Rattle.tia_chip.specs.Missile.{is_missile_lit}
use Rattle.tia_chip.specs.Objects.{lit_objects}
use Rattle.tia_chip.specs.Quiet.{IsQuietBall, IsQuietMissile, IsQuietPlayer, keeps_quiet, quiet_ball_after}
use Rattle.tia_chip.specs.Quiet.{quiet_missile_after, quiet_player_after}
use Rattle.tia_chip.specs.declared.ball.Ball.{Ball}
use Rattle.tia_chip.specs.declared.missile.Missile.{Missile}
use Rattle.tia_chip.specs.declared.player.Player.{Player}
use Rattle.tia_chip.specs.declared.state.TiaState.{TiaState}

pub keeps-still : (clock : ℕ) (m : Missile) → m.moves ≡ false → keeps_quiet clock m ≡ true
keeps-still clock m e = ap (λ (moves : Bool). not (moves && (nat_le 1 (clock % 4) && nat_le (clock % 4) 2))) e

pub ball-still : (b : Ball) → b.moves ≡ false → (not b.moves || false) ≡ true
ball-still b e = ap (λ (moves : Bool). not moves || false) e

-- pixels
pub pixel-player0 : (t : TiaState) (n : ℕ) → IsCalmInPicture t → t.clock + n < 228 → IsQuietPlayer t.player0
    → (lit_objects (at_pixel (iterate after_clock n t))).player0 ≡ (quiet_player_after (suc n) t.player0).seen
pixel-player0 t n h l q =
    ap (λ (x : TiaState). (lit_objects x).player0) (clocks-pixel t n h l) ∙ ap (λ (p : Player). p.seen) (player-steps t.player0 (suc n) q)

pub pixel-player1 : (t : TiaState) (n : ℕ) → IsCalmInPicture t → t.clock + n < 228 → IsQuietPlayer t.player1
    → (lit_objects (at_pixel (iterate after_clock n t))).player1 ≡ (quiet_player_after (suc n) t.player1).seen
pixel-player1 t n h l q =
    ap (λ (x : TiaState). (lit_objects x).player1) (clocks-pixel t n h l) ∙ ap (λ (p : Player). p.seen) (player-steps t.player1 (suc n) q)

pub pixel-missile0 : (t : TiaState) (n : ℕ) → IsCalmInPicture t → t.clock + n < 228 → IsQuietMissile t.player0.nusiz t.missile0
    → (lit_objects (at_pixel (iterate after_clock n t))).missile0 ≡ is_missile_lit (quiet_missile_after t.player0.nusiz (suc n) t.missile0)
pixel-missile0 t n h l q =
    ap (λ (x : TiaState). (lit_objects x).missile0) (clocks-pixel t n h l)
    ∙ ap (λ (m : Missile). is_missile_lit m) (missile-steps t.player0.nusiz t.clock t.missile0 (suc n) q (keeps-still t.clock t.missile0 (still t h.calm.moves).missile0))

pub pixel-missile1 : (t : TiaState) (n : ℕ) → IsCalmInPicture t → t.clock + n < 228 → IsQuietMissile t.player1.nusiz t.missile1
    → (lit_objects (at_pixel (iterate after_clock n t))).missile1 ≡ is_missile_lit (quiet_missile_after t.player1.nusiz (suc n) t.missile1)
pixel-missile1 t n h l q =
    ap (λ (x : TiaState). (lit_objects x).missile1) (clocks-pixel t n h l)
    ∙ ap (λ (m : Missile). is_missile_lit m) (missile-steps t.player1.nusiz t.clock t.missile1 (suc n) q (keeps-still t.clock t.missile1 (still t h.calm.moves).missile1))

pub pixel-ball : (t : TiaState) (n : ℕ) → IsCalmInPicture t → t.clock + n < 228 → IsQuietBall t.ctrlpf t.ball
    → (lit_objects (at_pixel (iterate after_clock n t))).ball ≡ is_ball_lit (quiet_ball_after t.ctrlpf (suc n) t.ball)
pixel-ball t n h l q =
    ap (λ (x : TiaState). (lit_objects x).ball) (clocks-pixel t n h l)
    ∙ ap (λ (b : Ball). is_ball_lit b) (ball-steps t.ctrlpf false t.ball (suc n) q (ball-still t.ball (still t h.calm.moves).ball))

-- objects after n + 1 clocks
pub after-player0 : (t : TiaState) (n : ℕ) → IsCalmInPicture t → t.clock + suc n < 228 → IsQuietPlayer t.player0
    → (iterate after_clock (suc n) t).player0 ≡ record (quiet_player_after (suc n) t.player0) { seen = false }
after-player0 t n h l q =
    ap (λ (x : TiaState). x.player0) (clocks-picture t n h l) ∙ ap (λ (p : Player). record p { seen = false }) (player-steps t.player0 (suc n) q)

pub after-player1 : (t : TiaState) (n : ℕ) → IsCalmInPicture t → t.clock + suc n < 228 → IsQuietPlayer t.player1
    → (iterate after_clock (suc n) t).player1 ≡ record (quiet_player_after (suc n) t.player1) { seen = false }
after-player1 t n h l q =
    ap (λ (x : TiaState). x.player1) (clocks-picture t n h l) ∙ ap (λ (p : Player). record p { seen = false }) (player-steps t.player1 (suc n) q)

pub after-missile0 : (t : TiaState) (n : ℕ) → IsCalmInPicture t → t.clock + suc n < 228 → IsQuietMissile t.player0.nusiz t.missile0
    → (iterate after_clock (suc n) t).missile0 ≡ record (quiet_missile_after t.player0.nusiz (suc n) t.missile0) { seen = false }
after-missile0 t n h l q =
    ap (λ (x : TiaState). x.missile0) (clocks-picture t n h l)
    ∙ ap (λ (m : Missile). record m { seen = false }) (missile-steps t.player0.nusiz t.clock t.missile0 (suc n) q (keeps-still t.clock t.missile0 (still t h.calm.moves).missile0))

pub after-missile1 : (t : TiaState) (n : ℕ) → IsCalmInPicture t → t.clock + suc n < 228 → IsQuietMissile t.player1.nusiz t.missile1
    → (iterate after_clock (suc n) t).missile1 ≡ record (quiet_missile_after t.player1.nusiz (suc n) t.missile1) { seen = false }
after-missile1 t n h l q =
    ap (λ (x : TiaState). x.missile1) (clocks-picture t n h l)
    ∙ ap (λ (m : Missile). record m { seen = false }) (missile-steps t.player1.nusiz t.clock t.missile1 (suc n) q (keeps-still t.clock t.missile1 (still t h.calm.moves).missile1))

pub after-ball : (t : TiaState) (n : ℕ) → IsCalmInPicture t → t.clock + suc n < 228 → IsQuietBall t.ctrlpf t.ball
    → (iterate after_clock (suc n) t).ball ≡ record (quiet_ball_after t.ctrlpf (suc n) t.ball) { seen = false }
after-ball t n h l q =
    ap (λ (x : TiaState). x.ball) (clocks-picture t n h l)
    ∙ ap (λ (b : Ball). record b { seen = false }) (ball-steps t.ctrlpf false t.ball (suc n) q (ball-still t.ball (still t h.calm.moves).ball))
