use Rattle.std.proofs.Common.{◌∙◌, false, ap, sym, arith}
use Rattle.std.specs.Fn.{iterate}
use Rattle.tia_chip.proofs.ClocksLemmas.{iterate-add}
use Rattle.tia_chip.specs.Ball.{ball_after_step}
use Rattle.tia_chip.proofs.ball.Ball.pass_strides.Goals as goal

pub loop-passed-preserved : goal.loop-passed-preserved
loop-passed-preserved c =
    let before = c.args.self.now in
    let n = c.loop-passed.passed in
    let r = c.stride-passed.result in
    let made = c.stride-passed.ensures in
    let held = c.loop-passed.invariant in
    record {
      most = omega arith;
      value = made.value ∙ (ap (iterate (ball_after_step c.args.ctrlpf false) r) held.value ∙ sym (iterate-add (ball_after_step c.args.ctrlpf false) n r before));
      range = made.range;
    }
