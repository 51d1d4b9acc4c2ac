use Rattle.std.proofs.Common.{◌≡◌, ◌-◌, ◌≤◌, false}
use Rattle.std.specs.Fn.{iterate}
use Rattle.tia_chip.specs.Ball.{ball_after_step}
use Rattle.tia_chip.specs.Private.Ranges.{IsBallInRange}
use Rattle.tia_chip.proofs.ball.Ball.pass_strides.Given as goal

abbrev pub invariant-loop-passed : goal.invariant-loop-passed
invariant-loop-passed l = record {
  most : l.passed ≤ l.count;
  value : l.self ≡ iterate (ball_after_step l.ctrlpf false) l.passed l.fn.self;
  range : IsBallInRange l.self;
}

abbrev pub decreases-loop-passed : goal.decreases-loop-passed
decreases-loop-passed l = l.count - l.passed
