use Rattle.std.proofs.Common.{◌≡◌, ◌+◌, false, arith, ap, sym}
use Rattle.std.specs.Prelude.{is_some}
use Rattle.tia_chip.proofs.Strides.{ball-passes}
use Rattle.tia_chip.specs.Quiet.{counter_after}
use Rattle.tia_chip.specs.declared.ball.Ball.{Ball}
use Rattle.tia_chip.proofs.ball.Ball.pass.Goals as goal

pub returns-then-is_bare_for-clause-value : goal.returns-then-is_bare_for-clause-value
returns-then-is_bare_for-clause-value c =
    let b = c.args.self.now in
    let n = c.args.count in
    let bare = c.is_bare_for.ensures in
    let holds = c.if-is_bare_for.true in
    let none : is_some b.place ≡ false = ap is_some (bare.none holds) in
    let sum = bare.sum holds in
    let counter : b.counter + n ≡ counter_after n b.counter = omega arith in
    rw counter (sym (ap (λ (q : Ball). record q { seen = false }) (ball-passes n c.args.ctrlpf b none c.requires.some c.requires.range.counter (bare.begins holds))))
