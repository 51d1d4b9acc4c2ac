-- Lawful numbers are in the ranges of those of every TIA.
use Rattle.std.proofs.Common.{ℕ, IsTrue, Option, Some, None, arith}
use Rattle.tia_chip.proofs.UnderwayBall.{IsBallUnderway, IsPlace, own_size-small, size-small}
use Rattle.tia_chip.proofs.UnderwayMissiles.{IsMissileUnderway, own_size-cases}
use Rattle.tia_chip.proofs.UnderwayMissiles as missile
use Rattle.tia_chip.proofs.UnderwayPlayers.{IsCopy, IsPlayerUnderway, width_cases}
use Rattle.tia_chip.proofs.UnderwayTables.{has_line, has_numbers, underway-record}
use Rattle.tia_chip.specs.Numbers.{is_settled, is_tia}
use Rattle.tia_chip.specs.Private.Ranges.{IsBallInRange, IsBallPlaceInRange, IsCopyInRange, IsInRange}
use Rattle.tia_chip.specs.Private.Ranges.{IsMissileCopyInRange, IsMissileInRange, IsPlayerInRange}
use Rattle.tia_chip.specs.Underway.{IsUnderway}
use Rattle.tia_chip.specs.declared.ball.Ball.{Ball}
use Rattle.tia_chip.specs.declared.missile.Missile.{Missile}
use Rattle.tia_chip.specs.declared.missile.MissileCopy.{MissileCopy}
use Rattle.tia_chip.specs.declared.player.Player.{Player}
use Rattle.tia_chip.specs.declared.player.PlayerCopy.{PlayerCopy}
use Rattle.tia_chip.specs.declared.state.TiaState.{TiaState}

copy_in_range : (copy : Option PlayerCopy) → IsCopy copy → IsCopyInRange copy
copy_in_range None h = tt
copy_in_range (Some copy) h = (omega (arith, h.0), omega (arith, h.1))

player_in_range : (p : Player) → IsPlayerUnderway p → IsPlayerInRange p
player_in_range p h = record { counter = h.counter; copy = copy_in_range p.copy h.copy; width = width_cases p.width h.width }

missile_copy_in_range : (copy : Option MissileCopy) → missile.IsCopy copy → IsMissileCopyInRange copy
missile_copy_in_range None h = tt
missile_copy_in_range (Some copy) h = (omega (arith, h.0), size-small copy.own_size (own_size-cases copy h.1))

missile_in_range : (m : Missile) → IsMissileUnderway m → IsMissileInRange m
missile_in_range m h = record { counter = h.counter; copy = missile_copy_in_range m.copy h.copy }

ball_place_in_range : (place : Option ℕ) → IsPlace place → IsBallPlaceInRange place
ball_place_in_range None h = tt
ball_place_in_range (Some place) h = omega (arith, h)

ball_in_range : (b : Ball) → IsBallUnderway b → IsBallInRange b
ball_in_range b h = record { counter = h.counter; place = ball_place_in_range b.place h.place; own_size = own_size-small b.own_size h.own_size }

underway_in_range : (t : TiaState) → IsUnderway t → IsInRange t
underway_in_range t h =
    let n = has_numbers t h in
    let beam = (has_line t h).0 in
    record {
      player0 = player_in_range t.player0 n.player0;
      player1 = player_in_range t.player1 n.player1;
      missile0 = missile_in_range t.missile0 n.missile0;
      missile1 = missile_in_range t.missile1 n.missile1;
      ball = ball_in_range t.ball n.ball;
      collisions = n.collisions;
      pulses = omega (arith, n.pulses);
      clock = beam.in_line;
      beam = beam.in_beam;
    }

pub in_range : (t : TiaState) → IsTrue (is_tia t) → IsTrue (is_settled t) → IsInRange t
in_range t lawful settled = underway_in_range t (underway-record t lawful settled)
