use Rattle.std.proofs.Common.{◌≡◌, ◌∙◌, ◌+◌, ◌&&◌, suc, false, ap, sym, arith}
use Rattle.std.specs.Fn.{iterate}
use Rattle.std.specs.Prelude.{is_some, nat_lt}
use Rattle.tia_chip.proofs.ClocksLemmas.{iterate-add}
use Rattle.tia_chip.proofs.QuietSteps.{ball-bare, ball-quiet_steps}
use Rattle.tia_chip.proofs.Strides.{ball-passes, shows-on}
use Rattle.tia_chip.specs.Ball.{ball_after_step, is_ball_lit}
use Rattle.tia_chip.specs.Quiet.{counter_after}
use Rattle.tia_chip.specs.declared.ball.Ball.{Ball}
use Rattle.tia_chip.proofs.ball.Ball.steps.Goals as goal

pub loop-passed-preserved : goal.loop-passed-preserved
loop-passed-preserved c =
    let before = c.args.self.now in
    let now = c.loop-passed.self in
    let after = c.stride-passed.new.self in
    let n = c.loop-passed.passed in
    let r = c.stride-passed.result in
    let made = c.stride-passed.ensures in
    let held = c.loop-passed.invariant in
    record {
      most = omega arith;
      value = made.value ∙ (ap (iterate (ball_after_step c.args.ctrlpf false) r) held.value ∙ sym (iterate-add (ball_after_step c.args.ctrlpf false) n r before));
      lit = λ k. c.with_pixel-lit.ensures k
          ∙ shows-on (ball_after_step c.args.ctrlpf false) (λ (b : Ball). is_ball_lit b) before now after c.loop-passed.lit n r c.is_lit.result made.some held.value made.value c.is_lit.ensures made.unlit held.lit k;
      range = made.range;
    }

pub returns-then-is_quiet-clause-value : goal.returns-then-is_quiet-clause-value
returns-then-is_quiet-clause-value c =
    let quiet = c.is_quiet.ensures c.if-is_quiet.true in
    c.pass_looked.ensures.value ∙ sym (ball-quiet_steps c.args.count c.args.ctrlpf c.args.self.now quiet c.if-not-self.true)

pub returns-then-is_quiet-clause-lit : goal.returns-then-is_quiet-clause-lit
returns-then-is_quiet-clause-lit c =
    let quiet = c.is_quiet.ensures c.if-is_quiet.true in
    λ k. c.lit_within-lit.ensures k ∙ ap (λ (x : Ball). nat_lt k c.args.count && is_ball_lit x) (sym (ball-quiet_steps (suc k) c.args.ctrlpf c.args.self.now quiet c.if-not-self.true))

pub returns-then-is_bare_for-clause-value : goal.returns-then-is_bare_for-clause-value
returns-then-is_bare_for-clause-value c =
    let x = c.args.self.now in
    let n = c.args.count in
    let bare = c.is_bare_for.ensures in
    let holds = c.if-is_bare_for.true in
    let none : is_some x.place ≡ false = ap is_some (bare.none holds) in
    let sum = bare.sum holds in
    let counter : x.counter + n ≡ counter_after n x.counter = omega arith in
    rw counter (sym (ball-passes n c.args.ctrlpf x none c.requires.some c.requires.range.counter (bare.begins holds)))

pub returns-then-is_bare_for-clause-lit : goal.returns-then-is_bare_for-clause-lit
returns-then-is_bare_for-clause-lit c =
    let bare = c.is_bare_for.ensures in
    let holds = c.if-is_bare_for.true in
    λ k. ball-bare c.args.count k c.args.ctrlpf c.args.self.now (bare.none holds) c.requires.range.counter (bare.begins holds)
