-- The set of the six objects that cover a pixel. Stella Programmer's Guide: VDELP0, VDELP1, VDELBL,
-- ENAM0 to ENABL, RESMP0 and RESMP1, sizes by NUSIZ and CTRLPF.
use Rattle.std.specs.Prelude.{Bool, ℕ, ◌/◌, ◌%◌, ◌^◌, ◌==◌, ◌&&◌, not, if◌then◌else◌}
use Rattle.tia_core.specs.Bits.{has_bit}
use Rattle.tia_core.specs.Coverage.{player_covers, missile_covers, ball_covers}
use Rattle.tia_core.specs.Playfield.{playfield_bit, playfield_index}
use Rattle.tia_core.specs.declared.fields.TiaFields.{TiaFields}
use Rattle.tia_core.specs.declared.objects.Objects.{Objects}

-- the six objects: two players, two missiles, the ball and the playfield
pub data Object : Type 0 where
  P0 : Object
  P1 : Object
  M0 : Object
  M1 : Object
  BL : Object
  PF : Object

-- whether an object is in a set
abbrev pub is_in : Object → Objects → Bool
is_in P0 o = o.player0
is_in P1 o = o.player1
is_in M0 o = o.missile0
is_in M1 o = o.missile1
is_in BL o = o.ball
is_in PF o = o.playfield

-- what is shown of graphics, or of the ball's enable: the old value if bit 0 of its delay
-- register is set
abbrev pub value_by_delay : ℕ → ℕ → ℕ → ℕ
value_by_delay delay old new = if has_bit delay 0 then old else new

-- the size 1, 2, 4 or 8 of a missile or ball, by bits 5 and 4 of NUSIZ or CTRLPF
abbrev pub size_of : ℕ → ℕ
size_of register = 2 ^ (register / 16 % 4)

-- a missile is shown if it is enabled and not locked to its player
abbrev pub missile_at : ℕ → ℕ → ℕ → ℕ → ℕ → Bool
missile_at enam resmp nusiz position x = has_bit enam 1 && not (has_bit resmp 1) && missile_covers (nusiz % 8) (size_of nusiz) position x

-- a ball is shown if it is enabled
abbrev pub ball_at : ℕ → ℕ → ℕ → ℕ → Bool
ball_at enabl ctrlpf position x = has_bit enabl 1 && ball_covers (size_of ctrlpf) position x

-- the objects that cover pixel x
unfoldable pub objects_at : TiaFields → ℕ → Objects
objects_at t x = record {
  player0 = player_covers (t.nusiz0 % 8) (has_bit t.refp0 3) (value_by_delay t.vdelp0 t.grp0_old t.grp0_new) t.position_p0 x;
  player1 = player_covers (t.nusiz1 % 8) (has_bit t.refp1 3) (value_by_delay t.vdelp1 t.grp1_old t.grp1_new) t.position_p1 x;
  missile0 = missile_at t.enam0 t.resmp0 t.nusiz0 t.position_m0 x;
  missile1 = missile_at t.enam1 t.resmp1 t.nusiz1 t.position_m1 x;
  ball = ball_at (value_by_delay t.vdelbl t.enabl_old t.enabl_new) t.ctrlpf t.position_bl x;
  playfield = playfield_bit t.pf0 t.pf1 t.pf2 (playfield_index (has_bit t.ctrlpf 0) x);
}

-- the object with this number, 0 to 5
abbrev pub object_of : ℕ → Object
object_of n =
    if n == 0 then P0 else if n == 1 then P1 else if n == 2 then M0
    else if n == 3 then M1 else if n == 4 then BL else PF
