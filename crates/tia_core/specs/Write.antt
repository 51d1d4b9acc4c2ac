-- What a write does, register by register. Stella Programmer's Guide: the sections on each
-- register. This project's own rules are marked below; those of the positions stand in Position,
-- those of the buttons in Latch.
use Rattle.std.specs.Prelude.{ℕ, ◌&&◌, not, nat_lt, Bool, if◌then◌else◌}
use Rattle.tia_core.specs.Bits.{has_bit}
use Rattle.tia_core.specs.Latch.{latches_after_vblank}
use Rattle.tia_core.specs.Position.{strobed_position, moved_position, released_position}
use Rattle.tia_core.specs.Registers.{register_of, register_bits}
use Rattle.tia_core.specs.TiaState.{TiaState}
use Rattle.tia_core.specs.declared.fields.TiaFields.{TiaFields}
use Rattle.tia_core.specs.declared.register.Register.{Register}
use Rattle.tia_core.specs.declared.register.Register.TheVariants.{Vsync, Vblank, Wsync, Nusiz0}
use Rattle.tia_core.specs.declared.register.Register.TheVariants.{Nusiz1, Colup0, Colup1, Colupf}
use Rattle.tia_core.specs.declared.register.Register.TheVariants.{Colubk, Ctrlpf, Refp0, Refp1, Pf0}
use Rattle.tia_core.specs.declared.register.Register.TheVariants.{Pf1, Pf2, Resp0, Resp1, Resm0}
use Rattle.tia_core.specs.declared.register.Register.TheVariants.{Resm1, Resbl, Grp0, Grp1, Enam0}
use Rattle.tia_core.specs.declared.register.Register.TheVariants.{Enam1, Enabl, Hmp0, Hmp1, Hmm0}
use Rattle.tia_core.specs.declared.register.Register.TheVariants.{Hmm1, Hmbl, Vdelp0, Vdelp1}
use Rattle.tia_core.specs.declared.register.Register.TheVariants.{Vdelbl, Resmp0, Resmp1, Hmove}
use Rattle.tia_core.specs.declared.register.Register.TheVariants.{Hmclr, Cxclr, Ignored}
use Rattle.tia_core.specs.declared.effect.Effect.{Effect}
use Rattle.tia_core.specs.declared.effect.Effect.TheVariants.{Nothing, Sync, FrameEnd}

-- the numbers of a TIA after a write of this register, with the two buttons pressed or not
abbrev pub fields_after : TiaFields → Bool → Bool → Register → ℕ → TiaFields
fields_after t fire0 fire1 Vsync v = record t { vsync = register_bits Vsync v }
-- D7, which grounds the paddles' inputs on a console, does nothing: this project's own
fields_after t fire0 fire1 Vblank v = record t {
  vblank = register_bits Vblank v;
  latches = latches_after_vblank t.latches fire0 fire1 (register_bits Vblank v);
}
fields_after t fire0 fire1 Nusiz0 v = record t { nusiz0 = register_bits Nusiz0 v }
fields_after t fire0 fire1 Nusiz1 v = record t { nusiz1 = register_bits Nusiz1 v }
fields_after t fire0 fire1 Colup0 v = record t { colup0 = register_bits Colup0 v }
fields_after t fire0 fire1 Colup1 v = record t { colup1 = register_bits Colup1 v }
fields_after t fire0 fire1 Colupf v = record t { colupf = register_bits Colupf v }
fields_after t fire0 fire1 Colubk v = record t { colubk = register_bits Colubk v }
fields_after t fire0 fire1 Ctrlpf v = record t { ctrlpf = register_bits Ctrlpf v }
fields_after t fire0 fire1 Refp0 v = record t { refp0 = register_bits Refp0 v }
fields_after t fire0 fire1 Refp1 v = record t { refp1 = register_bits Refp1 v }
fields_after t fire0 fire1 Pf0 v = record t { pf0 = register_bits Pf0 v }
fields_after t fire0 fire1 Pf1 v = record t { pf1 = register_bits Pf1 v }
fields_after t fire0 fire1 Pf2 v = record t { pf2 = register_bits Pf2 v }
-- this project's own: a strobe in the blank puts a player at pixel 3, a missile or the ball at 2,
-- and one after it 5 and 4 pixels to the right of the beam
fields_after t fire0 fire1 Resp0 v = record t { position_p0 = strobed_position 3 5 t.clock }
fields_after t fire0 fire1 Resp1 v = record t { position_p1 = strobed_position 3 5 t.clock }
fields_after t fire0 fire1 Resm0 v = record t { position_m0 = strobed_position 2 4 t.clock }
fields_after t fire0 fire1 Resm1 v = record t { position_m1 = strobed_position 2 4 t.clock }
fields_after t fire0 fire1 Resbl v = record t { position_bl = strobed_position 2 4 t.clock }
-- a write of one graphic makes the other old, and that of player 1 the ball's enable too
fields_after t fire0 fire1 Grp0 v = record t { grp0_new = register_bits Grp0 v; grp1_old = t.grp1_new }
fields_after t fire0 fire1 Grp1 v = record t { grp1_new = register_bits Grp1 v; grp0_old = t.grp0_new; enabl_old = t.enabl_new }
fields_after t fire0 fire1 Enam0 v = record t { enam0 = register_bits Enam0 v }
fields_after t fire0 fire1 Enam1 v = record t { enam1 = register_bits Enam1 v }
fields_after t fire0 fire1 Enabl v = record t { enabl_new = register_bits Enabl v }
fields_after t fire0 fire1 Hmp0 v = record t { hmp0 = register_bits Hmp0 v }
fields_after t fire0 fire1 Hmp1 v = record t { hmp1 = register_bits Hmp1 v }
fields_after t fire0 fire1 Hmm0 v = record t { hmm0 = register_bits Hmm0 v }
fields_after t fire0 fire1 Hmm1 v = record t { hmm1 = register_bits Hmm1 v }
fields_after t fire0 fire1 Hmbl v = record t { hmbl = register_bits Hmbl v }
fields_after t fire0 fire1 Vdelp0 v = record t { vdelp0 = register_bits Vdelp0 v }
fields_after t fire0 fire1 Vdelp1 v = record t { vdelp1 = register_bits Vdelp1 v }
fields_after t fire0 fire1 Vdelbl v = record t { vdelbl = register_bits Vdelbl v }
fields_after t fire0 fire1 Resmp0 v = record t {
  resmp0 = register_bits Resmp0 v;
  position_m0 = released_position t.resmp0 v t.nusiz0 t.position_p0 t.position_m0;
}
fields_after t fire0 fire1 Resmp1 v = record t {
  resmp1 = register_bits Resmp1 v;
  position_m1 = released_position t.resmp1 v t.nusiz1 t.position_p1 t.position_m1;
}
-- all objects move at once, and a strobe in the blank alone sets the comb: this project's own
fields_after t fire0 fire1 Hmove v = record t {
  position_p0 = moved_position t.hmp0 t.position_p0;
  position_p1 = moved_position t.hmp1 t.position_p1;
  position_m0 = moved_position t.hmm0 t.position_m0;
  position_m1 = moved_position t.hmm1 t.position_m1;
  position_bl = moved_position t.hmbl t.position_bl;
  comb = if nat_lt t.clock 68 then 1 else t.comb;
}
fields_after t fire0 fire1 Hmclr v = record t { hmp0 = 0; hmp1 = 0; hmm0 = 0; hmm1 = 0; hmbl = 0 }
fields_after t fire0 fire1 Cxclr v = record t { collisions = 0 }
fields_after t fire0 fire1 Wsync v = t
fields_after t fire0 fire1 Ignored v = t

-- the TIA after a write of the register with this number
unfoldable pub tia_after_write : TiaState → ℕ → ℕ → TiaState
tia_after_write s number v = record s { fields = fields_after s.fields s.fire0 s.fire1 (register_of number) v }

-- what a write asks of its caller: to wait after WSYNC, to end the frame if VSYNC's bit 1 falls.
-- That a frame ends there is this project's own.
abbrev pub effect_after : TiaFields → Register → ℕ → Effect
effect_after t Wsync v = Sync
effect_after t Vsync v = if has_bit t.vsync 1 && not (has_bit v 1) then FrameEnd else Nothing
effect_after t _ v = Nothing

abbrev pub effect_of : TiaState → ℕ → ℕ → Effect
effect_of s number v = effect_after s.fields (register_of number) v
