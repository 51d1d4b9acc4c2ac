-- Clocks in which the objects only make steps: no write is on its way, and HMOVE moves nothing. What
-- the objects are after n of them, and what their pixels show, follows from steps alone. This
-- project's own, from the rules of a clock.
use Rattle.std.specs.Fn.{iterate}
use Rattle.std.specs.Prelude.{◌≡◌, ◌≤◌, ℕ, ◌+◌, ◌%◌, ◌==◌, ◌||◌, not, suc, false, if◌then◌else◌, None, IsTrue}
use Rattle.tia_chip.specs.Ball.{ball_after_step}
use Rattle.tia_chip.specs.Clock.{looked_at, without_seen}
use Rattle.tia_chip.specs.Missile.{missile_after_step}
use Rattle.tia_chip.specs.Motion.{any_moves}
use Rattle.tia_chip.specs.Player.{player_after_step}
use Rattle.tia_chip.specs.declared.state.TiaState.{TiaState}

-- no write is on its way, no object moves, and pixels are put where the line's clock is
pub record IsCalm (t : TiaState) : Type 0 where
  pub waiting : t.waiting ≡ None
  pub hmove : t.hmove ≡ None
  pub moves : any_moves t ≡ false
  pub beam : t.beam ≡ t.clock

-- and the next clock is one of the picture
pub record IsCalmInPicture (t : TiaState) : Type 0 where
  pub calm : IsCalm t
  pub clock : 68 ≤ t.clock
  pub longer : t.longer ≡ false

-- the TIA with each object after n steps of the picture. The clock is nothing to a missile that doesn't
-- move.
abbrev pub after_steps : ℕ → TiaState → TiaState
after_steps n t = record t {
  player0 = iterate player_after_step n t.player0;
  player1 = iterate player_after_step n t.player1;
  missile0 = iterate (missile_after_step t.player0.nusiz t.clock) n t.missile0;
  missile1 = iterate (missile_after_step t.player1.nusiz t.clock) n t.missile1;
  ball = iterate (ball_after_step t.ctrlpf false) n t.ball;
}

-- a TIA with the playfield and the collisions of another
abbrev pub with_rest_of : TiaState → TiaState → TiaState
with_rest_of other t = record t {
  playfield = other.playfield;
  mirrored = other.mirrored;
  collisions = other.collisions;
  changed = other.changed;
}

-- After n clocks that don't reach the line's end, but for the rest: in the picture nothing that was seen
-- is kept.
abbrev pub after_picture : ℕ → TiaState → TiaState
after_picture n t = record (without_seen (after_steps n t)) { clock = t.clock + n; beam = t.clock + n }

-- After n clocks of which the last is the line's: the objects are looked at.
abbrev pub after_line : ℕ → TiaState → TiaState
after_line n t = record (looked_at (after_steps n t)) { clock = 0; beam = 0; line = (t.line + 1) % 65536 }

-- At the pixel after n clocks: what it shows of an object is what that one's step n + 1 sees.
abbrev pub at_pixel_after : ℕ → TiaState → TiaState
at_pixel_after n t = record (after_steps (suc n) t) { clock = t.clock + n; beam = t.clock + n }

-- the clock with which the blank of this line is over
abbrev pub blank_end : TiaState → ℕ
blank_end t = if t.longer then 76 else 68

-- Nothing is on its way, and a line that begins isn't longer: the next clock is one of the blank where
-- it comes before the blank's end.
pub record IsFreeInBlank (t : TiaState) : Type 0 where
  pub waiting : t.waiting ≡ None
  pub hmove : t.hmove ≡ None
  pub beam : t.beam ≡ t.clock
  pub start : IsTrue (not t.longer || not (t.clock == 0))

-- and nothing moves
pub record IsCalmInBlank (t : TiaState) : Type 0 where
  pub calm : IsCalm t
  pub start : IsTrue (not t.longer || not (t.clock == 0))

-- After n clocks in the blank, but for the rest: nothing is done.
abbrev pub after_blank : ℕ → TiaState → TiaState
after_blank n t = record t { clock = t.clock + n; beam = t.clock + n }

-- After n clocks of which the last is the blank's: what was seen is forgotten.
abbrev pub at_blank_end : ℕ → TiaState → TiaState
at_blank_end n t = record (without_seen t) { clock = t.clock + n; beam = t.clock + n; longer = false }
