use Rattle.std.proofs.Common.{◌∙◌, ap, sym, arith}
use Rattle.std.specs.Fn.{iterate}
use Rattle.tia_chip.proofs.ClocksLemmas.{iterate-add}
use Rattle.tia_chip.specs.Missile.{missile_after_step}
use Rattle.tia_chip.proofs.missile.Missile.pass_strides.Goals as goal

pub loop-passed-preserved : goal.loop-passed-preserved
loop-passed-preserved c =
    let before = c.args.self.now in
    let n = c.loop-passed.passed in
    let r = c.stride-passed.result in
    let made = c.stride-passed.ensures in
    let held = c.loop-passed.invariant in
    record {
      most = omega arith;
      value = made.value ∙ (ap (iterate (missile_after_step c.args.nusiz c.args.clock) r) held.value ∙ sym (iterate-add (missile_after_step c.args.nusiz c.args.clock) n r before));
      range = made.range;
    }
