-- Writes that are put on their way before the clocks that come before them have passed.
use Rattle.std.specs.Prelude.{ℕ, ◌-◌, ◌==◌, ◌&&◌, nat_le, Bool, true, false, if◌then◌else◌, Option, Some, None}
use Rattle.tia_chip.specs.Registers.{register_bits}
use Rattle.tia_chip.specs.declared.ball.Ball.{Ball}
use Rattle.tia_chip.specs.declared.player.Player.{Player}
use Rattle.tia_chip.specs.declared.register.Register.{Register}
use Rattle.tia_chip.specs.declared.register.Register.TheVariants.{Refp0, Refp1, Pf0, Pf1, Pf2, Grp0, Grp1}
use Rattle.tia_chip.specs.declared.register.Register.TheVariants.{Enam0, Enam1, Enabl, Hmp0, Hmp1, Hmm0}
use Rattle.tia_chip.specs.declared.register.Register.TheVariants.{Hmm1, Hmbl, Hmclr, Nusiz0, Nusiz1, Vdelp0}
use Rattle.tia_chip.specs.declared.register.Register.TheVariants.{Vdelp1, Vdelbl, Resmp0, Resmp1, Colup0, Colup1, Colupf, Colubk}
use Rattle.tia_chip.specs.declared.state.TiaState.{TiaState}
use Rattle.tia_chip.specs.declared.waiting.Waiting.{Waiting}

-- whether all of a write of this register is put on its way: HMOVE has a place of its own, and a part of
-- VBLANK acts at once
abbrev pub acts_late : Register → Bool
acts_late Refp0 = true
acts_late Refp1 = true
acts_late Pf0 = true
acts_late Pf1 = true
acts_late Pf2 = true
acts_late Grp0 = true
acts_late Grp1 = true
acts_late Enam0 = true
acts_late Enam1 = true
acts_late Enabl = true
acts_late Hmp0 = true
acts_late Hmp1 = true
acts_late Hmm0 = true
acts_late Hmm1 = true
acts_late Hmbl = true
acts_late Hmclr = true
acts_late _ = false

-- whether a write of this register surely changes nothing that an object shows: no graphic, enable, REFP,
-- VDELP, VDELBL or RESMP
abbrev pub keeps_shown : Register → Bool
keeps_shown Nusiz0 = false
keeps_shown Nusiz1 = false
keeps_shown Refp0 = false
keeps_shown Refp1 = false
keeps_shown Grp0 = false
keeps_shown Grp1 = false
keeps_shown Enam0 = false
keeps_shown Enam1 = false
keeps_shown Enabl = false
keeps_shown Vdelp0 = false
keeps_shown Vdelp1 = false
keeps_shown Vdelbl = false
keeps_shown Resmp0 = false
keeps_shown Resmp1 = false
keeps_shown _ = true

-- ---- writes of what is there already
-- the registers of objects that wait for their writes, but for motion
pub record PlayerRegisters : Type 0 where
  pub grp_new : ℕ
  pub grp_old : ℕ
  pub refp : ℕ

pub record BallRegisters : Type 0 where
  pub enabl_new : ℕ
  pub enabl_old : ℕ

pub record Written : Type 0 where
  pub pf0 : ℕ
  pub pf1 : ℕ
  pub pf2 : ℕ
  pub player0 : PlayerRegisters
  pub player1 : PlayerRegisters
  pub enam0 : ℕ
  pub enam1 : ℕ
  pub ball : BallRegisters

abbrev pub player_registers : Player → PlayerRegisters
player_registers p = record { grp_new = p.grp_new; grp_old = p.grp_old; refp = p.refp }

abbrev pub ball_registers : Ball → BallRegisters
ball_registers b = record { enabl_new = b.enabl_new; enabl_old = b.enabl_old }

abbrev pub written_of : TiaState → Written
written_of t = record {
  pf0 = t.pf0;
  pf1 = t.pf1;
  pf2 = t.pf2;
  player0 = player_registers t.player0;
  player1 = player_registers t.player1;
  enam0 = t.missile0.enam;
  enam1 = t.missile1.enam;
  ball = ball_registers t.ball;
}

-- Whether a write of this value is known to change nothing. That of a graphic also copies another.
abbrev pub is_there : Register → ℕ → Written → Bool
is_there Refp0 v w = w.player0.refp == register_bits Refp0 v
is_there Refp1 v w = w.player1.refp == register_bits Refp1 v
is_there Pf0 v w = w.pf0 == register_bits Pf0 v
is_there Pf1 v w = w.pf1 == register_bits Pf1 v
is_there Pf2 v w = w.pf2 == register_bits Pf2 v
is_there Grp0 v w = w.player0.grp_new == register_bits Grp0 v && w.player1.grp_old == w.player1.grp_new
is_there Grp1 v w =
    w.player1.grp_new == register_bits Grp1 v && w.player0.grp_old == w.player0.grp_new && w.ball.enabl_old == w.ball.enabl_new
is_there Enam0 v w = w.enam0 == register_bits Enam0 v
is_there Enam1 v w = w.enam1 == register_bits Enam1 v
is_there Enabl v w = w.ball.enabl_new == register_bits Enabl v
is_there _ v w = false

-- a write on its way after n clocks, if it is still on its way
abbrev pub waits_after : ℕ → Waiting → Option Waiting
waits_after n w = if nat_le n w.clocks then Some (record w { clocks = w.clocks - n }) else None

-- ---- writes that don't wait for clocks
-- whether this register is one of the four colours
abbrev pub is_colour : Register → Bool
is_colour Colup0 = true
is_colour Colup1 = true
is_colour Colupf = true
is_colour Colubk = true
is_colour _ = false

-- whether no write is on its way, or one that acts late
abbrev pub is_free : Option Waiting → Bool
is_free None = true
is_free (Some w) = acts_late w.register

-- whether no write is on its way, or one that is known to change nothing
abbrev pub gives_way : Option Waiting → Written → Bool
gives_way None w = true
gives_way (Some x) w = is_there x.register x.value w
