use Rattle.std.proofs.Common.{◌≡◌, false}
use Rattle.tia_chip.specs.Motion.{any_moves}
use Rattle.tia_chip.specs.Private.Owed.{made_steps}
use Rattle.tia_chip.specs.Private.Ranges.{IsInRange}
use Rattle.tia_chip.proofs.owed.make_steps.Given as goal

-- the steps that are left lead to where all of them do
abbrev pub invariant-loop-left : goal.invariant-loop-left
invariant-loop-left l = record {
  value : made_steps l.left false l.tia ≡ made_steps l.steps false l.fn.tia;
  still : any_moves l.tia ≡ false;
  range : IsInRange l.tia;
}

abbrev pub decreases-loop-left : goal.decreases-loop-left
decreases-loop-left l = l.left
