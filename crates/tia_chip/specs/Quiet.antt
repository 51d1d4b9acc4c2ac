-- Quiet objects: those whose copy follows from their counter, as it does once the copy that a write
-- changed is over. What a quiet object shows in the next steps is a mask by its counter, and a step
-- leaves it quiet. This project's own, from the rules of the steps.
use Rattle.std.specs.Prelude.{◌≡◌, ◌<◌, ℕ, zero, suc, ◌+◌, ◌-◌, ◌*◌, ◌/◌, ◌%◌, ◌==◌, ◌&&◌, not, min, nat_le, nat_lt}
use Rattle.std.specs.Prelude.{Bool, if◌then◌else◌, List, [], ◌∷◌, Option, Some, None}
use Rattle.tia_chip.specs.Ball.{begun_size}
use Rattle.tia_chip.specs.Bits.{has_bit}
use Rattle.tia_chip.specs.Counter.{beginnings_of}
use Rattle.tia_chip.specs.Missile.{is_locked, size_of}
use Rattle.tia_chip.specs.Player.{graphic_of, width_of}
use Rattle.tia_chip.specs.declared.ball.Ball.{Ball}
use Rattle.tia_chip.specs.declared.missile.Missile.{Missile}
use Rattle.tia_chip.specs.declared.missile.MissileCopy.{MissileCopy}
use Rattle.tia_chip.specs.declared.player.Player.{Player}
use Rattle.tia_chip.specs.declared.player.PlayerCopy.{PlayerCopy}

-- How many steps have passed since the one with which the last copy began, by the counter: 0 to 159.
-- Each list of beginnings has 156 in it, so a copy begins in each round of 160 steps.
abbrev pub age_among : List ℕ → ℕ → ℕ
age_among [] counter = 159
age_among (beginning ∷ others) counter = min ((counter + 159 - beginning) % 160) (age_among others counter)

abbrev pub age_of : ℕ → ℕ → ℕ
age_of mode counter = age_among (beginnings_of mode) counter

-- a counter after so many steps
abbrev pub counter_after : ℕ → ℕ → ℕ
counter_after n counter = (counter + n) % 160

-- Players. The age at which a copy of this width is drawn for the first time.
abbrev pub first_drawn : ℕ → ℕ
first_drawn width = if width == 1 then 5 else 6

-- whether a copy of this age is drawn: each of its 8 bits is for as many steps as its width
abbrev pub is_drawn_of_age : ℕ → ℕ → Bool
is_drawn_of_age width age = nat_le (first_drawn width) age && nat_lt age (first_drawn width + 8 * width)

-- the bit of a copy of this age
abbrev pub bit_of_age : ℕ → ℕ → ℕ
bit_of_age width age = (age - first_drawn width) / width

-- the copy of this age
abbrev pub player_copy_of_age : ℕ → ℕ → Option PlayerCopy
player_copy_of_age width age =
    if nat_lt age (first_drawn width + 8 * width)
    then Some (record { place = if nat_lt age 6 then age else 6 + (age - 6) % 4; bit = bit_of_age width age })
    else None

-- the copy of a quiet player whose counter is this
abbrev pub player_copy_at : Player → ℕ → Option PlayerCopy
player_copy_at p counter = player_copy_of_age (width_of p.nusiz) (age_of (p.nusiz % 8) counter)

-- no change of width is waited for, and the copy is that of the counter
pub record IsQuietPlayer (p : Player) : Type 0 where
  pub counter : p.counter < 160
  pub width : p.width ≡ width_of p.nusiz
  pub change : p.change ≡ 0
  pub copy : p.copy ≡ player_copy_at p p.counter

-- Whether a bit of a player that is 1 is drawn at this age.
abbrev pub shows_one_at_age : Player → ℕ → ℕ → Bool
shows_one_at_age p width age =
    is_drawn_of_age width age
    && has_bit (graphic_of p) (if has_bit p.refp 3 then bit_of_age width age else 7 - bit_of_age width age)

-- The mask of a quiet player by NUSIZ, its graphic and REFP: whether it shows a bit that is 1 in the
-- step of this counter.
abbrev pub player_mask : Player → ℕ → Bool
player_mask p counter = shows_one_at_age p (width_of p.nusiz) (age_of (p.nusiz % 8) counter)

-- a quiet player after n steps, of which the last sees what the mask has for it
abbrev pub quiet_player_after : ℕ → Player → Player
quiet_player_after zero p = p
quiet_player_after (suc n) p = record p {
  counter = counter_after (suc n) p.counter;
  copy = player_copy_at p (counter_after (suc n) p.counter);
  seen = player_mask p (counter_after n p.counter);
}

-- Missiles, with NUSIZ of their player. The copy of this age: one that isn't drawn yet has no own size,
-- which stands as 1.
abbrev pub missile_copy_of_age : ℕ → ℕ → Option MissileCopy
missile_copy_of_age size age =
    if nat_lt age (4 + size) then Some (record { place = age; own_size = if nat_lt age 4 then 1 else size }) else None

-- the copy of a quiet missile whose counter is this: a locked one has none
abbrev pub missile_copy_at : ℕ → Missile → ℕ → Option MissileCopy
missile_copy_at nusiz m counter =
    if is_locked m then None else missile_copy_of_age (size_of nusiz) (age_of (nusiz % 8) counter)

pub record IsQuietMissile (nusiz : ℕ) (m : Missile) : Type 0 where
  pub counter : m.counter < 160
  pub copy : m.copy ≡ missile_copy_at nusiz m m.counter

-- whether a missile or the ball of this size is drawn at this age
abbrev pub is_dot_of_age : ℕ → ℕ → Bool
is_dot_of_age size age = nat_le 4 age && nat_lt age (4 + size)

-- the mask of a quiet missile, but for ENAM: whether its copy is drawn in the step of this counter
abbrev pub missile_mask : ℕ → Missile → ℕ → Bool
missile_mask nusiz m counter = not (is_locked m) && is_dot_of_age (size_of nusiz) (age_of (nusiz % 8) counter)

-- Whether a step at this clock leaves a missile quiet: HMOVE changes it at clocks 1 and 2 modulo 4, at
-- which it makes no step in the blank.
abbrev pub keeps_quiet : ℕ → Missile → Bool
keeps_quiet clock m = not (m.moves && (nat_le 1 (clock % 4) && nat_le (clock % 4) 2))

abbrev pub quiet_missile_after : ℕ → ℕ → Missile → Missile
quiet_missile_after nusiz zero m = m
quiet_missile_after nusiz (suc n) m = record m {
  counter = counter_after (suc n) m.counter;
  copy = missile_copy_at nusiz m (counter_after (suc n) m.counter);
  seen = missile_mask nusiz m (counter_after n m.counter);
}

-- The ball, with CTRLPF: a copy begins with 156 alone, as in mode 0.
abbrev pub ball_place_of_age : ℕ → ℕ → Option ℕ
ball_place_of_age size age = if nat_lt age (4 + size) then Some age else None

abbrev pub ball_place_at : ℕ → ℕ → Option ℕ
ball_place_at ctrlpf counter = ball_place_of_age (size_of ctrlpf) (age_of 0 counter)

pub record IsQuietBall (ctrlpf : ℕ) (b : Ball) : Type 0 where
  pub counter : b.counter < 160
  pub place : b.place ≡ ball_place_at ctrlpf b.counter

-- the mask of a quiet ball, but for ENABL: whether its copy is drawn in the step of this counter
abbrev pub ball_mask : ℕ → ℕ → Bool
ball_mask ctrlpf counter = is_dot_of_age (size_of ctrlpf) (age_of 0 counter)

-- whether a copy begins with one of the next n steps
abbrev pub begins_within : ℕ → ℕ → Bool
begins_within n counter = nat_lt ((316 - counter) % 160) n

-- A quiet ball after n steps. A copy that begins gives it its own size.
abbrev pub quiet_ball_after : ℕ → ℕ → Ball → Ball
quiet_ball_after ctrlpf zero b = b
quiet_ball_after ctrlpf (suc n) b = record b {
  counter = counter_after (suc n) b.counter;
  place = ball_place_at ctrlpf (counter_after (suc n) b.counter);
  own_size = if begins_within (suc n) b.counter then begun_size ctrlpf b.phase else b.own_size;
  seen = ball_mask ctrlpf (counter_after n b.counter);
}
