-- One colour clock: what it does, in order, and what it leaves. Stella Programmer's Guide: a line has
-- 228 colour clocks. Measured in Stella 6.7: the order. n clocks are that n times.
use Rattle.std.specs.Prelude.{◌+◌, ◌%◌, ◌==◌, ◌&&◌, not, nat_lt, min, false, if◌then◌else◌}
use Rattle.tia_chip.specs.Ball.{ball_after_step, looked_at_ball}
use Rattle.tia_chip.specs.Blank.{is_in_blank}
use Rattle.tia_chip.specs.Collision.{latched}
use Rattle.tia_chip.specs.Missile.{missile_after_step, looked_at_missile}
use Rattle.tia_chip.specs.Motion.{pulsed}
use Rattle.tia_chip.specs.Player.{player_after_step, looked_at_player}
use Rattle.tia_chip.specs.Playfield.{with_playfield}
use Rattle.tia_chip.specs.Write.{with_waited_writes}
use Rattle.tia_chip.specs.declared.state.TiaState.{TiaState}

-- as a line begins its blank isn't longer, also if HMOVE acts just then
abbrev pub at_line_start : TiaState → TiaState
at_line_start t = if t.clock == 0 then record t { longer = false } else t

-- in the picture each object makes a step
abbrev pub stepped : TiaState → TiaState
stepped t =
    if is_in_blank t then t
    else record t {
      player0 = player_after_step t.player0;
      player1 = player_after_step t.player1;
      missile0 = missile_after_step t.player0.nusiz t.clock t.missile0;
      missile1 = missile_after_step t.player1.nusiz t.clock t.missile1;
      ball = ball_after_step t.ctrlpf false t.ball;
    }

-- What a clock does before its pixel, in this order: writes that have waited act, a line that begins
-- isn't longer, the objects that HMOVE moves are pulsed, the playfield takes its bit, and in the picture
-- the objects make a step.
unfoldable pub at_pixel : TiaState → TiaState
at_pixel t = stepped (with_playfield (pulsed (at_line_start (with_waited_writes t))))

-- each object is looked at
abbrev pub looked_at : TiaState → TiaState
looked_at t = record t {
  player0 = looked_at_player t.player0;
  player1 = looked_at_player t.player1;
  missile0 = looked_at_missile t.missile0;
  missile1 = looked_at_missile t.missile1;
  ball = looked_at_ball t.ball;
}

-- the TIA at the first clock of the next line, of which 65,536 are counted
abbrev pub at_next_line : TiaState → TiaState
at_next_line t = record (looked_at t) {
  clock = 0;
  beam = 0;
  line = (t.line + 1) % 65536;
  longer = false;
  playfield = false;
  mirrored = false;
}

-- The TIA at the next clock of its line; after clock 75 the blank isn't longer. Where RSYNC within a
-- cycle would lead past the picture, the beam stays at its last pixel.
abbrev pub at_next_clock : TiaState → TiaState
at_next_clock t = record t {
  clock = t.clock + 1;
  beam = min (t.beam + 1) 227;
  longer = t.longer && not (t.clock == 75);
}

-- what was seen of the objects is forgotten
abbrev pub without_seen : TiaState → TiaState
without_seen t = record t {
  player0 = record t.player0 { seen = false };
  player1 = record t.player1 { seen = false };
  missile0 = record t.missile0 { seen = false };
  missile1 = record t.missile1 { seen = false };
  ball = record t.ball { seen = false };
}

-- What the rest of a line has no use for is cleared, so that TIAs that go on alike are equal: the
-- playfield's bit after four pixels, CTRLPF D0 once the last was taken, and in the picture, where
-- each clock looks, what was seen.
abbrev pub without_rest : TiaState → TiaState
without_rest t =
    let cleared = record t {
      playfield = t.playfield && not (t.beam % 4 == 0);
      mirrored = t.mirrored && nat_lt t.beam 225;
    } in
    if is_in_blank t then cleared else without_seen cleared

-- the TIA after the pixel of a clock
abbrev pub with_next_clock : TiaState → TiaState
with_next_clock t = if t.clock == 227 then at_next_line t else without_rest (at_next_clock t)

-- the TIA after one clock
unfoldable pub after_clock : TiaState → TiaState
after_clock t = with_next_clock (latched (at_pixel t))
