use Rattle.std.proofs.Common.{◌≡◌, ◌∙◌, ◌+◌, ◌-◌, ℕ, false, ap, arith}
use Rattle.tia_chip.proofs.OwedLemmas.{made-add}
use Rattle.tia_chip.specs.Private.Owed.{made_steps}
use Rattle.tia_chip.specs.declared.state.TiaState.{TiaState}
use Rattle.tia_chip.proofs.owed.make_steps.Goals as goal

pub loop-left-preserved : goal.loop-left-preserved
loop-left-preserved c =
    let t = c.loop-left.tia in
    let n = c.min-count.result in
    let left = c.loop-left.left in
    let held = c.loop-left.invariant in
    let made = c.pass_objects.ensures in
    let all : n + (left - n) ≡ left = omega arith in
    record {
      value = rw c.from-left.ensures (ap (λ (x : TiaState). made_steps (left - n) false x) made.value
          ∙ (made-add n (left - n) t ∙ (ap (λ (k : ℕ). made_steps k false t) all ∙ held.value)));
      still = made.still;
      range = made.range;
    }
