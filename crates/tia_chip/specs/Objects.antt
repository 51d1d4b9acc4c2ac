-- The six objects, and which of them are lit. Stella Programmer's Guide.
use Rattle.std.specs.Prelude.{Bool}
use Rattle.tia_chip.specs.Ball.{is_ball_lit}
use Rattle.tia_chip.specs.Missile.{is_missile_lit}
use Rattle.tia_chip.specs.declared.objects.Objects.{Objects}
use Rattle.tia_chip.specs.declared.state.TiaState.{TiaState}

-- the six objects: two players, two missiles, the ball and the playfield
pub data Object : Type 0 where
  P0 : Object
  P1 : Object
  M0 : Object
  M1 : Object
  BL : Object
  PF : Object

-- whether an object is in a set
abbrev pub is_in : Object → Objects → Bool
is_in P0 o = o.player0
is_in P1 o = o.player1
is_in M0 o = o.missile0
is_in M1 o = o.missile1
is_in BL o = o.ball
is_in PF o = o.playfield

-- The objects that are lit: a player if it was seen at its last look. Measured in Stella 6.7: what is
-- seen stays in the blank until the next look, and the enables count as they are at each clock.
abbrev pub lit_objects : TiaState → Objects
lit_objects t = record {
  player0 = t.player0.seen;
  player1 = t.player1.seen;
  missile0 = is_missile_lit t.missile0;
  missile1 = is_missile_lit t.missile1;
  ball = is_ball_lit t.ball;
  playfield = t.playfield;
}
