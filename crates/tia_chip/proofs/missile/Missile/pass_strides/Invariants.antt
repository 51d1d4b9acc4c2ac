use Rattle.std.proofs.Common.{◌≡◌, ◌-◌, ◌≤◌}
use Rattle.std.specs.Fn.{iterate}
use Rattle.tia_chip.specs.Missile.{missile_after_step}
use Rattle.tia_chip.specs.Private.Ranges.{IsMissileInRange}
use Rattle.tia_chip.proofs.missile.Missile.pass_strides.Given as goal

abbrev pub invariant-loop-passed : goal.invariant-loop-passed
invariant-loop-passed l = record {
  most : l.passed ≤ l.count;
  value : l.self ≡ iterate (missile_after_step l.nusiz l.clock) l.passed l.fn.self;
  range : IsMissileInRange l.self;
}

abbrev pub decreases-loop-passed : goal.decreases-loop-passed
decreases-loop-passed l = l.count - l.passed
