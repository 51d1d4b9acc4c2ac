-- HMOVE: pulses move the objects. Stella Programmer's Guide: HMOVE, and HMP0 to HMBL. Andrew Towers'
-- notes: HMOVE counts pulses, an object moves until the count meets its register, and each pulse in
-- the blank is a step. Measured in Stella 6.7: the clocks, and that the count ends at 16.
use Rattle.std.specs.Prelude.{ℕ, ◌+◌, ◌/◌, ◌%◌, ◌==◌, ◌&&◌, ◌||◌, not, min, Bool, true, if◌then◌else◌}
use Rattle.tia_chip.specs.Ball.{ball_after_step}
use Rattle.tia_chip.specs.Blank.{is_in_blank}
use Rattle.tia_chip.specs.Missile.{missile_after_step}
use Rattle.tia_chip.specs.Player.{player_after_step}
use Rattle.tia_chip.specs.declared.ball.Ball.{Ball}
use Rattle.tia_chip.specs.declared.missile.Missile.{Missile}
use Rattle.tia_chip.specs.declared.player.Player.{Player}
use Rattle.tia_chip.specs.declared.state.TiaState.{TiaState}

-- the TIA as HMOVE acts: all objects move, and in the blank this line's is longer
abbrev pub after_hmove : TiaState → TiaState
after_hmove t = record t {
  player0 = record t.player0 { moves = true };
  player1 = record t.player1 { moves = true };
  missile0 = record t.missile0 { moves = true };
  missile1 = record t.missile1 { moves = true };
  ball = record t.ball { moves = true };
  pulses = 0;
  longer = is_in_blank t;
}

-- how many pulses an object with this motion register makes: its upper half with the top bit turned
-- round, from 8 for 0 over 15 for 7 left to 0 for 8 right
abbrev pub pulses_of : ℕ → ℕ
pulses_of motion = (motion / 16 + 8) % 16

-- Whether an object that moves still does after so many pulses. The count is compared modulo 16, so
-- that one whose register was passed goes on until it is met.
abbrev pub still_moves : ℕ → ℕ → Bool
still_moves motion pulses = not (pulses_of motion == pulses % 16)

-- Each object at a pulse: the count may end its motion, and one that still moves makes a step if in
-- the blank.
abbrev pub player_after_pulse : TiaState → Player → Player
player_after_pulse t p =
    let now = record p { moves = p.moves && still_moves p.hmp t.pulses } in
    if now.moves && is_in_blank t then player_after_step now else now

abbrev pub missile_after_pulse : TiaState → ℕ → Missile → Missile
missile_after_pulse t nusiz m =
    let now = record m { moves = m.moves && still_moves m.hmm t.pulses } in
    if now.moves && is_in_blank t then missile_after_step nusiz t.clock now else now

-- The ball's counter is also taken, whether it moves or not.
abbrev pub ball_after_pulse : TiaState → Ball → Ball
ball_after_pulse t b =
    let now = record b { moves = b.moves && still_moves b.hmbl t.pulses; phase = b.counter % 4 } in
    if now.moves && is_in_blank t then ball_after_step t.ctrlpf true now else now

-- whether an object moves
abbrev pub any_moves : TiaState → Bool
any_moves t = t.player0.moves || t.player1.moves || t.missile0.moves || t.missile1.moves || t.ball.moves

-- the TIA once a pulse has been counted: to 16 at most, and no more once nothing moves
abbrev pub with_counted_pulse : TiaState → TiaState
with_counted_pulse t = record t { pulses = if any_moves t then min (t.pulses + 1) 16 else 0 }

-- the TIA after a pulse
abbrev pub after_pulse : TiaState → TiaState
after_pulse t = with_counted_pulse (record t {
  player0 = player_after_pulse t t.player0;
  player1 = player_after_pulse t t.player1;
  missile0 = missile_after_pulse t t.player0.nusiz t.missile0;
  missile1 = missile_after_pulse t t.player1.nusiz t.missile1;
  ball = ball_after_pulse t t.ball;
})

-- the TIA once a clock has pulsed: each fourth does, while an object moves
abbrev pub pulsed : TiaState → TiaState
pulsed t = if (t.clock % 4 == 0) && any_moves t then after_pulse t else t

-- whether the clock pulsed, and an object still moves after it
abbrev pub pulses_on : TiaState → Bool
pulses_on t = (t.clock % 4 == 0) && any_moves t
