-- What is true of the numbers of a TIA that runs, also while writes are on their way: each clock,
-- write and read keeps it. Of a settled TIA it says what `is_tia` says of a record.
use Rattle.std.specs.Prelude.{◌≤◌, ◌%◌, ◌==◌, ◌&&◌, ◌||◌, not, nat_le, nat_lt, Bool, IsTrue, IfSome}
use Rattle.record_table.specs.Numbers.{are_lawful}
use Rattle.tia_chip.specs.Bits.{has_bit}
use Rattle.tia_chip.specs.Blank.{is_in_blank}
use Rattle.tia_chip.specs.Motion.{any_moves}
use Rattle.tia_chip.specs.Numbers.{is_ball, is_missile_copy, is_player, seen_number, tia_numbers}
use Rattle.tia_chip.specs.Registers.{delay_of}
use Rattle.tia_chip.specs.declared.register.Register.TheVariants.{Hmove}
use Rattle.tia_chip.specs.declared.state.TiaState.{TiaState}
use Rattle.tia_chip.specs.declared.waiting.Waiting.{Waiting}

-- What `is_beam` says, but by the beam what depends on it, since after RSYNC, for the last three clocks
-- of a line, it isn't the clock. A clock of the picture puts a pixel, so its beam isn't left of it.
abbrev pub is_beam_underway : TiaState → Bool
is_beam_underway t =
    nat_lt t.beam 228
    && (nat_le 225 t.clock || (t.beam == t.clock))
    && (is_in_blank t || nat_le 68 t.beam)
    && (not t.longer || (not (t.clock == 0) && (nat_lt t.clock 76 || nat_le 225 t.clock)))
    && (not t.playfield || (nat_le 69 t.beam && not (t.beam % 4 == 0)))
    && (not t.mirrored || (nat_le 149 t.beam && nat_lt t.beam 225))
    && (is_in_blank t || (seen_number t == 0))

-- A write that is on its way is one with a delay, and has no more clocks to wait. HMOVE has a place of
-- its own, since cycles have three clocks and no other delay is above two.
abbrev pub IsOnItsWay : Waiting → Type 0
IsOnItsWay w = (1 ≤ delay_of w.register) × (delay_of w.register ≤ 2) × (w.clocks ≤ delay_of w.register)

-- The numbers are those that a record may have, with the beam's and those of writes on their way.
pub record IsUnderway (t : TiaState) : Type 0 where
  pub numbers : IsTrue (are_lawful tia_numbers t)
  pub player0 : IsTrue (is_player t.player0)
  pub player1 : IsTrue (is_player t.player1)
  pub missile0 : IsTrue (is_missile_copy t.missile0.copy)
  pub missile1 : IsTrue (is_missile_copy t.missile1.copy)
  pub ball : IsTrue (is_ball t.ball)
  pub beam : IsTrue (is_beam_underway t)
  pub pulses : IsTrue (any_moves t || (t.pulses == 0))
  pub latches : IsTrue (has_bit t.vblank 6 || (t.latches == 0))
  pub waiting : IfSome t.waiting IsOnItsWay
  pub hmove : IfSome t.hmove (λ clocks. clocks ≤ delay_of Hmove)
