use Rattle.std.proofs.Common.{◌≡◌, ◌-◌, ◌≤◌}
use Rattle.std.specs.Fn.{iterate}
use Rattle.tia_chip.specs.Player.{player_after_step}
use Rattle.tia_chip.specs.Private.Ranges.{IsPlayerInRange}
use Rattle.tia_chip.proofs.player.Player.pass_strides.Given as goal

abbrev pub invariant-loop-passed : goal.invariant-loop-passed
invariant-loop-passed l = record {
  most : l.passed ≤ l.count;
  value : l.self ≡ iterate player_after_step l.passed l.fn.self;
  range : IsPlayerInRange l.self;
}

abbrev pub decreases-loop-passed : goal.decreases-loop-passed
decreases-loop-passed l = l.count - l.passed
