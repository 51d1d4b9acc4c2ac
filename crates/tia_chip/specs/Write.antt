-- What a write does, and when. Stella Programmer's Guide: the sections on each register. Measured in
-- Stella 6.7: RSYNC, the clocks at which writes act, and which of them are seen in the blank.
use Rattle.std.specs.Prelude.{ℕ, ◌+◌, ◌-◌, ◌==◌, ◌&&◌, ◌||◌, not, Bool, if◌then◌else◌}
use Rattle.std.specs.Prelude.{Option, Some, None, bit_and}
use Rattle.tia_chip.specs.Ball.{ball_after_strobe, is_ball_changed}
use Rattle.tia_chip.specs.Bits.{has_bit}
use Rattle.tia_chip.specs.Blank.{is_in_blank, lateness_of}
use Rattle.tia_chip.specs.Missile.{missile_after_nusiz, missile_after_strobe, missile_after_resmp}
use Rattle.tia_chip.specs.Missile.{is_missile_changed}
use Rattle.tia_chip.specs.Motion.{after_hmove}
use Rattle.tia_chip.specs.Player.{player_after_strobe, looked_at_player, is_player_changed}
use Rattle.tia_chip.specs.PlayerWidth.{player_after_nusiz}
use Rattle.tia_chip.specs.Registers.{register_of, register_bits, delay_of}
use Rattle.tia_chip.specs.declared.effect.Effect.{Effect}
use Rattle.tia_chip.specs.declared.effect.Effect.TheVariants.{Nothing, Sync, FrameEnd}
use Rattle.tia_chip.specs.declared.player.Player.{Player}
use Rattle.tia_chip.specs.declared.register.Register.{Register}
use Rattle.tia_chip.specs.declared.register.Register.TheVariants.{Vsync, Vblank, Wsync, Rsync}
use Rattle.tia_chip.specs.declared.register.Register.TheVariants.{Nusiz0, Nusiz1, Colup0, Colup1}
use Rattle.tia_chip.specs.declared.register.Register.TheVariants.{Colupf, Colubk, Ctrlpf, Refp0}
use Rattle.tia_chip.specs.declared.register.Register.TheVariants.{Refp1, Pf0, Pf1, Pf2, Resp0}
use Rattle.tia_chip.specs.declared.register.Register.TheVariants.{Resp1, Resm0, Resm1, Resbl, Grp0}
use Rattle.tia_chip.specs.declared.register.Register.TheVariants.{Grp1, Enam0, Enam1, Enabl, Hmp0}
use Rattle.tia_chip.specs.declared.register.Register.TheVariants.{Hmp1, Hmm0, Hmm1, Hmbl, Vdelp0}
use Rattle.tia_chip.specs.declared.register.Register.TheVariants.{Vdelp1, Vdelbl, Resmp0, Resmp1}
use Rattle.tia_chip.specs.declared.register.Register.TheVariants.{Hmove, Hmclr, Cxclr, Ignored}
use Rattle.tia_chip.specs.declared.state.TiaState.{TiaState}
use Rattle.tia_chip.specs.declared.waiting.Waiting.{Waiting}

-- VBLANK by the bit 6 of one value and the bit 1 of another
abbrev pub vblank_of : ℕ → ℕ → ℕ
vblank_of six one = bit_and six 0x40 + bit_and one 0x02

-- The TIA after RSYNC: three clocks are left of the line, in the blank exactly if this clock is. The
-- pixels go on where they are.
abbrev pub after_rsync : TiaState → TiaState
after_rsync t = record t { clock = 225; longer = is_in_blank t }

-- The TIA once a write of a register has acted on its numbers. `after_action` looks at the objects
-- that it changed.
abbrev pub acted : Register → ℕ → TiaState → TiaState
acted Vsync v t = record t { vsync = register_bits Vsync v }
acted Vblank v t = record t { vblank = vblank_of t.vblank v }
acted Wsync v t = t
acted Rsync v t = after_rsync t
acted Nusiz0 v t = record t {
  player0 = player_after_nusiz (is_in_blank t) (register_bits Nusiz0 v) t.player0;
  missile0 = missile_after_nusiz (register_bits Nusiz0 v) t.missile0;
}
acted Nusiz1 v t = record t {
  player1 = player_after_nusiz (is_in_blank t) (register_bits Nusiz1 v) t.player1;
  missile1 = missile_after_nusiz (register_bits Nusiz1 v) t.missile1;
}
acted Colup0 v t = record t { colup0 = register_bits Colup0 v }
acted Colup1 v t = record t { colup1 = register_bits Colup1 v }
acted Colupf v t = record t { colupf = register_bits Colupf v }
acted Colubk v t = record t { colubk = register_bits Colubk v }
acted Ctrlpf v t = record t { ctrlpf = register_bits Ctrlpf v }
acted Refp0 v t = record t { player0 = record t.player0 { refp = register_bits Refp0 v } }
acted Refp1 v t = record t { player1 = record t.player1 { refp = register_bits Refp1 v } }
acted Pf0 v t = record t { pf0 = register_bits Pf0 v }
acted Pf1 v t = record t { pf1 = register_bits Pf1 v }
acted Pf2 v t = record t { pf2 = register_bits Pf2 v }
acted Resp0 v t = record t { player0 = player_after_strobe (lateness_of t) t.player0 }
acted Resp1 v t = record t { player1 = player_after_strobe (lateness_of t) t.player1 }
acted Resm0 v t = record t {
  missile0 = missile_after_strobe t.player0.nusiz (is_in_blank t) (lateness_of t) t.missile0;
}
acted Resm1 v t = record t {
  missile1 = missile_after_strobe t.player1.nusiz (is_in_blank t) (lateness_of t) t.missile1;
}
acted Resbl v t = record t { ball = ball_after_strobe (lateness_of t) t.ball }
-- a write of one graphic makes the other old, and that of player 1 the ball's enable too
acted Grp0 v t = record t {
  player0 = record t.player0 { grp_new = register_bits Grp0 v };
  player1 = record t.player1 { grp_old = t.player1.grp_new };
}
acted Grp1 v t = record t {
  player1 = record t.player1 { grp_new = register_bits Grp1 v };
  player0 = record t.player0 { grp_old = t.player0.grp_new };
  ball = record t.ball { enabl_old = t.ball.enabl_new };
}
acted Enam0 v t = record t { missile0 = record t.missile0 { enam = register_bits Enam0 v } }
acted Enam1 v t = record t { missile1 = record t.missile1 { enam = register_bits Enam1 v } }
acted Enabl v t = record t { ball = record t.ball { enabl_new = register_bits Enabl v } }
acted Hmp0 v t = record t { player0 = record t.player0 { hmp = register_bits Hmp0 v } }
acted Hmp1 v t = record t { player1 = record t.player1 { hmp = register_bits Hmp1 v } }
acted Hmm0 v t = record t { missile0 = record t.missile0 { hmm = register_bits Hmm0 v } }
acted Hmm1 v t = record t { missile1 = record t.missile1 { hmm = register_bits Hmm1 v } }
acted Hmbl v t = record t { ball = record t.ball { hmbl = register_bits Hmbl v } }
acted Vdelp0 v t = record t { player0 = record t.player0 { vdelp = register_bits Vdelp0 v } }
acted Vdelp1 v t = record t { player1 = record t.player1 { vdelp = register_bits Vdelp1 v } }
acted Vdelbl v t = record t { ball = record t.ball { vdelbl = register_bits Vdelbl v } }
acted Resmp0 v t = record t {
  missile0 = missile_after_resmp t.player0.width t.player0.counter (register_bits Resmp0 v) t.missile0;
}
acted Resmp1 v t = record t {
  missile1 = missile_after_resmp t.player1.width t.player1.counter (register_bits Resmp1 v) t.missile1;
}
acted Hmove v t = after_hmove t
acted Hmclr v t = record t {
  player0 = record t.player0 { hmp = 0 };
  player1 = record t.player1 { hmp = 0 };
  missile0 = record t.missile0 { hmm = 0 };
  missile1 = record t.missile1 { hmm = 0 };
  ball = record t.ball { hmbl = 0 };
}
acted Cxclr v t = record t { collisions = 0 }
acted Ignored v t = t

-- whether a write that made a TIA of another changed a player, missile or the ball
abbrev pub is_changed : TiaState → TiaState → Bool
is_changed before after =
    is_player_changed before.player0 after.player0 || is_player_changed before.player1 after.player1
    || is_missile_changed before.missile0 after.missile0 || is_missile_changed before.missile1 after.missile1
    || is_ball_changed before.ball after.ball

-- A player that a write changed is looked at as it acts. In the picture its next step looks at it.
abbrev pub player_after_write : Bool → Player → Player → Player
player_after_write in_blank before after =
    if in_blank && is_player_changed before after then looked_at_player after else after

-- the TIA after a write has acted on it: of what it changed, players are looked at, and the next
-- clock latches pairs
abbrev pub with_changes : TiaState → TiaState → TiaState
with_changes before after = record after {
  player0 = player_after_write (is_in_blank after) before.player0 after.player0;
  player1 = player_after_write (is_in_blank after) before.player1 after.player1;
  changed = before.changed || is_changed before after;
}

abbrev pub after_action : Register → ℕ → TiaState → TiaState
after_action register v t = with_changes t (acted register v t)

-- The TIA with a write on its way. An HMOVE takes the place of one that is. No other write is on its
-- way then: cycles have three clocks, and no other delay is above two.
abbrev pub with_waiting : Register → ℕ → TiaState → TiaState
with_waiting Hmove v t = record t { hmove = Some (delay_of Hmove) }
with_waiting register v t = record t { waiting = Some (record { register = register; value = v; clocks = delay_of register }) }

-- the TIA once VBLANK D6 has acted: clearing it clears the buttons' latches
abbrev pub with_latching : ℕ → TiaState → TiaState
with_latching v t = record t {
  vblank = vblank_of v t.vblank;
  latches = if has_bit v 6 then t.latches else 0;
}

-- what of a write that is put on its way acts at once: VBLANK D6
abbrev pub at_once : Register → ℕ → TiaState → TiaState
at_once Vblank v t = with_latching v t
at_once _ v t = t

-- the TIA after a write of a register: one without a delay acts, another is put on its way
abbrev pub after_register_write : Register → ℕ → TiaState → TiaState
after_register_write register v t =
    if delay_of register == 0 then after_action register v t else with_waiting register v (at_once register v t)

-- the TIA after a write of the register with this number
unfoldable pub tia_after_write : TiaState → ℕ → ℕ → TiaState
tia_after_write t number v = after_register_write (register_of number) v t

-- The TIA as a clock begins, by the write that is on its way: it acts if it has waited, and else is
-- a clock nearer.
abbrev pub with_waited : Option Waiting → TiaState → TiaState
with_waited None t = t
with_waited (Some w) t =
    if w.clocks == 0 then after_action w.register w.value (record t { waiting = None })
    else record t { waiting = Some (record w { clocks = w.clocks - 1 }) }

abbrev pub with_waited_write : TiaState → TiaState
with_waited_write t = with_waited t.waiting t

-- the same of an HMOVE
abbrev pub with_hmove_in : Option ℕ → TiaState → TiaState
with_hmove_in None t = t
with_hmove_in (Some clocks) t =
    if clocks == 0 then after_hmove (record t { hmove = None }) else record t { hmove = Some (clocks - 1) }

abbrev pub with_waited_hmove : TiaState → TiaState
with_waited_hmove t = with_hmove_in t.hmove t

abbrev pub with_waited_writes : TiaState → TiaState
with_waited_writes t = with_waited_hmove (with_waited_write t)

-- what a write asks of its caller: to wait after WSYNC, to end the frame if VSYNC's bit 1 falls.
-- That a frame ends there is this project's own.
abbrev pub effect_after : TiaState → Register → ℕ → Effect
effect_after t Wsync v = Sync
effect_after t Vsync v = if has_bit t.vsync 1 && not (has_bit v 1) then FrameEnd else Nothing
effect_after t _ v = Nothing

abbrev pub effect_of : TiaState → ℕ → ℕ → Effect
effect_of t number v = effect_after t (register_of number) v
