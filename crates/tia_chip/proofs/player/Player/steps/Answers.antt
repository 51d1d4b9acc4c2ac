use Rattle.std.proofs.Common.{◌≡◌, ◌∙◌, ◌+◌, ◌&&◌, suc, false, refl, ap, sym, arith}
use Rattle.std.specs.Fn.{iterate}
use Rattle.std.specs.Prelude.{is_some, nat_lt}
use Rattle.tia_chip.proofs.ClocksLemmas.{iterate-add}
use Rattle.tia_chip.proofs.QuietPlayers.{player-steps}
use Rattle.tia_chip.proofs.QuietSteps.{player-bare}
use Rattle.tia_chip.proofs.Strides.{player-passes, shows-on}
use Rattle.tia_chip.specs.Player.{player_after_step}
use Rattle.tia_chip.specs.Quiet.{counter_after}
use Rattle.tia_chip.specs.declared.player.Player.{Player}
use Rattle.tia_chip.proofs.player.Player.steps.Goals as goal

pub loop-passed-preserved : goal.loop-passed-preserved
loop-passed-preserved c =
    let before = c.args.self.now in
    let now = c.loop-passed.self in
    let after = c.stride-passed.new.self in
    let n = c.loop-passed.passed in
    let r = c.stride-passed.result in
    let made = c.stride-passed.ensures in
    let held = c.loop-passed.invariant in
    record {
      most = omega arith;
      value = made.value ∙ (ap (iterate player_after_step r) held.value ∙ sym (iterate-add player_after_step n r before));
      lit = λ k. c.with_pixel-lit.ensures k
          ∙ shows-on player_after_step (λ (p : Player). p.seen) before now after c.loop-passed.lit n r c.stride-passed.new.self.seen made.some held.value made.value refl made.unlit held.lit k;
      range = made.range;
    }

pub returns-then-is_quiet-clause-value : goal.returns-then-is_quiet-clause-value
returns-then-is_quiet-clause-value c =
    let quiet = c.is_quiet.ensures c.if-is_quiet.true in
    c.quiet_steps.ensures.value ∙ sym (player-steps c.args.self.now c.args.count quiet)

pub returns-then-is_quiet-clause-lit : goal.returns-then-is_quiet-clause-lit
returns-then-is_quiet-clause-lit c =
    let quiet = c.is_quiet.ensures c.if-is_quiet.true in
    λ k. c.quiet_steps.ensures.lit k ∙ ap (λ (p : Player). nat_lt k c.args.count && p.seen) (sym (player-steps c.args.self.now (suc k) quiet))

pub returns-then-is_bare_for-clause-value : goal.returns-then-is_bare_for-clause-value
returns-then-is_bare_for-clause-value c =
    let p = c.args.self.now in
    let n = c.args.count in
    let bare = c.is_bare_for.ensures in
    let holds = c.if-is_bare_for.true in
    let none : is_some p.copy ≡ false = ap is_some (bare.none holds) in
    let sum = bare.sum holds in
    let counter : p.counter + n ≡ counter_after n p.counter = omega arith in
    rw counter (sym (player-passes n p none c.requires.some c.requires.range.counter (bare.begins holds)))

pub returns-then-is_bare_for-clause-lit : goal.returns-then-is_bare_for-clause-lit
returns-then-is_bare_for-clause-lit c =
    let bare = c.is_bare_for.ensures in
    let holds = c.if-is_bare_for.true in
    λ k. player-bare c.args.count k c.args.self.now (bare.none holds) c.requires.range.counter (bare.begins holds)
