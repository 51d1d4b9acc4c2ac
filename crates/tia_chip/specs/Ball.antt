-- The steps of the ball. Stella Programmer's Guide: ENABL, VDELBL, RESBL and the sizes of CTRLPF.
-- Measured in Stella 6.7: the numbers of steps, and what HMOVE does in the picture.
--
-- A copy on its way has a place, as that of a missile: 0 as it begins, drawn from place 4 on.
use Rattle.std.specs.Prelude.{ℕ, ◌+◌, ◌==◌, ◌&&◌, not, nat_le, max, Bool, false, if◌then◌else◌}
use Rattle.std.specs.Prelude.{Option, Some, None}
use Rattle.tia_chip.specs.Bits.{has_bit}
use Rattle.tia_chip.specs.Counter.{next_counter, begins_copy, strobed_counter}
use Rattle.tia_chip.specs.Missile.{size_of}
use Rattle.tia_chip.specs.Registers.{value_by_delay}
use Rattle.tia_chip.specs.declared.ball.Ball.{Ball}

-- the enable that the ball shows
abbrev pub enable_of : Ball → ℕ
enable_of b = value_by_delay b.vdelbl b.enabl_old b.enabl_new

-- whether a copy is drawn
abbrev pub is_ball_drawn : Option ℕ → Bool
is_ball_drawn None = false
is_ball_drawn (Some place) = nat_le 4 place

-- a ball that is looked at: what is seen stays until the next look
abbrev pub looked_at_ball : Ball → Ball
looked_at_ball b = record b { seen = is_ball_drawn b.place }

-- A place after a step, unless a copy begins: it is over after as many drawn steps as this size.
abbrev pub stepped_place : ℕ → Option ℕ → Option ℕ
stepped_place size None = None
stepped_place size (Some place) = if nat_le (4 + size) (place + 1) then None else Some (place + 1)

-- The size at which the ball's copy is over: that of CTRLPF, but its own if it moves in the picture.
abbrev pub ending_size : ℕ → Bool → Ball → ℕ
ending_size ctrlpf in_blank b = if b.moves && not in_blank then b.own_size else size_of ctrlpf

-- The own size of a copy that begins: that of CTRLPF, but at least 2 or 0 where the counter was 1 or
-- 2 modulo 4 before the last pulse of HMOVE.
abbrev pub begun_size : ℕ → ℕ → ℕ
begun_size ctrlpf phase = if phase == 1 then max (size_of ctrlpf) 2 else if phase == 2 then 0 else size_of ctrlpf

-- The place of a copy that begins: 0, but 1 where the ball moves in the picture, its size is 1 or 2,
-- and the counter was 1 modulo 4 before the last pulse.
abbrev pub begun_place : ℕ → Bool → Ball → ℕ
begun_place ctrlpf in_blank b = if (b.phase == 1) && b.moves && not in_blank && nat_le (size_of ctrlpf) 2 then 1 else 0

-- A ball after a step, with CTRLPF: it is looked at before anything in it changes. The ball has one
-- copy, whatever NUSIZ says.
abbrev pub ball_after_step : ℕ → Bool → Ball → Ball
ball_after_step ctrlpf in_blank b =
    let seen = record (looked_at_ball b) { counter = next_counter b.counter } in
    if begins_copy 0 b.counter
    then record seen { place = Some (begun_place ctrlpf in_blank b); own_size = begun_size ctrlpf b.phase }
    else record seen { place = stepped_place (ending_size ctrlpf in_blank b) b.place }

-- A ball after RESBL: a copy begins at once, so many steps late.
abbrev pub ball_after_strobe : ℕ → Ball → Ball
ball_after_strobe late b = record b { counter = strobed_counter late; place = Some late }

-- whether the ball is lit: what is seen of it, with ENABL as it shows now
abbrev pub is_ball_lit : Ball → Bool
is_ball_lit b = b.seen && has_bit (enable_of b) 1

-- whether a write that made a ball of another changed ENABL as it shows, or VDELBL
abbrev pub is_ball_changed : Ball → Ball → Bool
is_ball_changed before after = not (enable_of before == enable_of after && before.vdelbl == after.vdelbl)
