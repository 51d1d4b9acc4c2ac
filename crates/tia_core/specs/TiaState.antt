-- A TIA as contracts see it, and what is true of its numbers. This project's own: the ranges, all 0
-- at power-on, and how a frame begins.
use Rattle.std.specs.Prelude.{ℕ, Bool, false, ◌==◌, ◌&&◌, ◌||◌}
use Rattle.record_table.specs.Numbers.{are_lawful}
use Rattle.tia_core.specs.Bits.{has_bit}
use Rattle.tia_core.specs.Latch.{latches_at_start}
use Rattle.tia_core.specs.Numbers.{colour_numbers, object_numbers, motion_numbers, position_numbers}
use Rattle.tia_core.specs.Numbers.{beam_numbers}
use Rattle.tia_core.specs.declared.fields.TiaFields.{TiaFields}

-- its numbers, the line that the beam is in, and whether each button is pressed
pub record TiaState : Type 0 where
  pub fields : TiaFields
  pub line : ℕ
  pub fire0 : Bool
  pub fire1 : Bool

-- what is true of the numbers of every TIA: each is lawful, and no latch is set if VBLANK has bit 6
-- clear
unfoldable pub is_tia : TiaFields → Bool
is_tia t =
    are_lawful colour_numbers t && are_lawful object_numbers t && are_lawful motion_numbers t
    && are_lawful position_numbers t && are_lawful beam_numbers t
    && (has_bit t.vblank 6 || (t.latches == 0))

-- a TIA with these numbers at line 0, with no button pressed
abbrev pub tia_of : TiaFields → TiaState
tia_of t = record { fields = t; line = 0; fire0 = false; fire1 = false }

-- a TIA that was just switched on
abbrev pub tia_at_power_on : TiaFields
tia_at_power_on = record {
  vsync = 0;
  vblank = 0;
  nusiz0 = 0;
  nusiz1 = 0;
  colup0 = 0;
  colup1 = 0;
  colupf = 0;
  colubk = 0;
  ctrlpf = 0;
  refp0 = 0;
  refp1 = 0;
  pf0 = 0;
  pf1 = 0;
  pf2 = 0;
  grp0_new = 0;
  grp0_old = 0;
  grp1_new = 0;
  grp1_old = 0;
  enam0 = 0;
  enam1 = 0;
  enabl_new = 0;
  enabl_old = 0;
  hmp0 = 0;
  hmp1 = 0;
  hmm0 = 0;
  hmm1 = 0;
  hmbl = 0;
  vdelp0 = 0;
  vdelp1 = 0;
  vdelbl = 0;
  resmp0 = 0;
  resmp1 = 0;
  position_p0 = 0;
  position_p1 = 0;
  position_m0 = 0;
  position_m1 = 0;
  position_bl = 0;
  collisions = 0;
  latches = 0;
  clock = 0;
  comb = 0;
}

-- the buttons as a frame's input has them
abbrev pub with_fire : TiaState → Bool → Bool → TiaState
with_fire s fire0 fire1 = record s { fire0 = fire0; fire1 = fire1 }

-- the start of a frame: line 0, and a pressed button sets its latch if VBLANK has bit 6
abbrev pub at_frame_start : TiaState → TiaState
at_frame_start s = record s {
  fields = record s.fields { latches = latches_at_start s.fields.latches s.fire0 s.fire1 s.fields.vblank };
  line = 0;
}
