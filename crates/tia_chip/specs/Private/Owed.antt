-- Steps of the objects that a TIA owes: nobody has looked at the objects since.
use Rattle.std.specs.Fn.{iterate}
use Rattle.std.specs.Prelude.{ℕ, zero, suc, ◌≡◌, ◌≤◌, Bool, true, false}
use Rattle.tia_chip.specs.Ball.{ball_after_step, looked_at_ball}
use Rattle.tia_chip.specs.Missile.{missile_after_step, looked_at_missile}
use Rattle.tia_chip.specs.Motion.{any_moves}
use Rattle.tia_chip.specs.Player.{player_after_step, looked_at_player}
use Rattle.tia_chip.specs.Quiet.{IsQuietBall, IsQuietMissile, IsQuietPlayer}
use Rattle.tia_chip.specs.declared.ball.Ball.{Ball}
use Rattle.tia_chip.specs.declared.missile.Missile.{Missile}
use Rattle.tia_chip.specs.declared.owed.Owed.{Owed}
use Rattle.tia_chip.specs.declared.player.Player.{Player}
use Rattle.tia_chip.specs.declared.register.Register.{Register}
use Rattle.tia_chip.specs.declared.register.Register.TheVariants.{Nusiz0, Nusiz1, Ctrlpf, Refp0, Refp1, Resp0}
use Rattle.tia_chip.specs.declared.register.Register.TheVariants.{Resp1, Resm0, Resm1, Resbl, Grp0, Grp1}
use Rattle.tia_chip.specs.declared.register.Register.TheVariants.{Vdelp0, Vdelp1, Resmp0, Resmp1, Hmove}
use Rattle.tia_chip.specs.declared.state.TiaState.{TiaState}

-- an object after n steps, and after what comes of what the last of them saw
abbrev pub after_owed : {A : Type 0} → (A → A) → (A → A) → ℕ → A → A
after_owed step seen zero a = a
after_owed step seen (suc n) a = seen (iterate step (suc n) a)

-- what comes of it: the object is looked at once more, or what was seen is forgotten
abbrev pub player_seen : Bool → Player → Player
player_seen true p = looked_at_player p
player_seen false p = record p { seen = false }

abbrev pub missile_seen : Bool → Missile → Missile
missile_seen true m = looked_at_missile m
missile_seen false m = record m { seen = false }

abbrev pub ball_seen : Bool → Ball → Ball
ball_seen true b = looked_at_ball b
ball_seen false b = record b { seen = false }

-- the TIA once each object has made n steps. The clock is nothing to a missile that doesn't move.
abbrev pub made_steps : ℕ → Bool → TiaState → TiaState
made_steps n looked t = record t {
  player0 = after_owed player_after_step (player_seen looked) n t.player0;
  player1 = after_owed player_after_step (player_seen looked) n t.player1;
  missile0 = after_owed (missile_after_step t.player0.nusiz 0) (missile_seen looked) n t.missile0;
  missile1 = after_owed (missile_after_step t.player1.nusiz 0) (missile_seen looked) n t.missile1;
  ball = after_owed (ball_after_step t.ctrlpf false) (ball_seen looked) n t.ball;
}

-- the TIA once the steps that it owes are made
abbrev pub settled : Owed → TiaState → TiaState
settled o t = made_steps o.steps o.looked t

-- steps are owed only while nothing moves
abbrev pub MayOwe : Owed → TiaState → Type 0
MayOwe o t = 1 ≤ o.steps → any_moves t ≡ false

-- each object is quiet
pub record AreQuiet (t : TiaState) : Type 0 where
  pub player0 : IsQuietPlayer t.player0
  pub player1 : IsQuietPlayer t.player1
  pub missile0 : IsQuietMissile t.player0.nusiz t.missile0
  pub missile1 : IsQuietMissile t.player1.nusiz t.missile1
  pub ball : IsQuietBall t.ctrlpf t.ball

-- Whether a write of this register depends on the steps, or they on it. An enable, VDELBL and motion are
-- nothing to an object that doesn't move.
abbrev pub needs_steps : Register → Bool
needs_steps Nusiz0 = true
needs_steps Nusiz1 = true
needs_steps Ctrlpf = true
needs_steps Refp0 = true
needs_steps Refp1 = true
needs_steps Resp0 = true
needs_steps Resp1 = true
needs_steps Resm0 = true
needs_steps Resm1 = true
needs_steps Resbl = true
needs_steps Grp0 = true
needs_steps Grp1 = true
needs_steps Vdelp0 = true
needs_steps Vdelp1 = true
needs_steps Resmp0 = true
needs_steps Resmp1 = true
needs_steps Hmove = true
needs_steps _ = false
