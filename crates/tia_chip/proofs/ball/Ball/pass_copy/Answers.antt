use Rattle.std.proofs.Common.{◌∙◌, false, ap, sym}
use Rattle.tia_chip.proofs.QuietSteps.{ball-quiet_steps}
use Rattle.tia_chip.specs.declared.ball.Ball.{Ball}
use Rattle.tia_chip.proofs.ball.Ball.pass_copy.Goals as goal

pub returns-then-is_quiet-clause-value : goal.returns-then-is_quiet-clause-value
returns-then-is_quiet-clause-value c =
    let quiet = c.is_quiet.ensures c.if-is_quiet.true in
    c.pass_quiet.ensures.value
    ∙ ap (λ (b : Ball). record b { seen = false }) (sym (ball-quiet_steps c.args.count c.args.ctrlpf c.args.self.now quiet c.requires.still))
