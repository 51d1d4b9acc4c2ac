use Rattle.std.proofs.Common.{◌≡◌, ℕ, ◌-◌, ◌≤◌, ◌&&◌}
use Rattle.std.specs.Prelude.{nat_lt}
use Rattle.tia_chip.specs.Bits.{has_bit}
use Rattle.tia_chip.specs.Quiet.{age_of, counter_after}
use Rattle.tia_chip.proofs.copies.lit_steps.Given as goal

abbrev pub invariant-loop-passed : goal.invariant-loop-passed
invariant-loop-passed l = record {
  most : l.passed ≤ l.count;
  bits : (k : ℕ) → has_bit l.lit k ≡ (nat_lt k l.passed && has_bit l.shape (age_of l.mode (counter_after k l.counter)));
}

abbrev pub decreases-loop-passed : goal.decreases-loop-passed
decreases-loop-passed l = l.count - l.passed
