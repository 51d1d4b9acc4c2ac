-- What is true of the numbers of every TIA, also while writes are on their way.
use Rattle.std.specs.Prelude.{◌≡◌, ◌<◌, ◌≤◌, ◌^◌, ◌⊎◌, ℕ, Option, Some, None}
use Rattle.tia_chip.specs.declared.ball.Ball.{Ball}
use Rattle.tia_chip.specs.declared.missile.Missile.{Missile}
use Rattle.tia_chip.specs.declared.missile.MissileCopy.{MissileCopy}
use Rattle.tia_chip.specs.declared.player.Player.{Player}
use Rattle.tia_chip.specs.declared.player.PlayerCopy.{PlayerCopy}
use Rattle.tia_chip.specs.declared.state.TiaState.{TiaState}

abbrev pub IsWidth : ℕ → Type 0
IsWidth width = width ≡ 1 ⊎ width ≡ 2 ⊎ width ≡ 4

abbrev pub IsPlaceInRange : ℕ → Type 0
IsPlaceInRange place = place ≤ 9

abbrev pub IsCopyInRange : Option PlayerCopy → Type 0
IsCopyInRange None = Unit {0}
IsCopyInRange (Some copy) = copy.place ≤ 9 × copy.bit ≤ 7

pub record IsPlayerInRange (p : Player) : Type 0 where
  pub counter : p.counter < 160
  pub copy : IsCopyInRange p.copy
  pub width : IsWidth p.width

abbrev pub IsMissileCopyInRange : Option MissileCopy → Type 0
IsMissileCopyInRange None = Unit {0}
IsMissileCopyInRange (Some copy) = copy.place ≤ 12 × copy.own_size ≤ 8

pub record IsMissileInRange (m : Missile) : Type 0 where
  pub counter : m.counter < 160
  pub copy : IsMissileCopyInRange m.copy

abbrev pub IsBallPlaceInRange : Option ℕ → Type 0
IsBallPlaceInRange None = Unit {0}
IsBallPlaceInRange (Some place) = place ≤ 12

pub record IsBallInRange (b : Ball) : Type 0 where
  pub counter : b.counter < 160
  pub place : IsBallPlaceInRange b.place
  pub own_size : b.own_size ≤ 8

pub record IsInRange (t : TiaState) : Type 0 where
  pub player0 : IsPlayerInRange t.player0
  pub player1 : IsPlayerInRange t.player1
  pub missile0 : IsMissileInRange t.missile0
  pub missile1 : IsMissileInRange t.missile1
  pub ball : IsBallInRange t.ball
  pub collisions : t.collisions < 2 ^ 15
  pub pulses : t.pulses ≤ 16
  pub clock : t.clock < 228
  pub beam : t.beam < 228
