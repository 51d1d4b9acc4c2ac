use Rattle.std.proofs.Common.{◌∙◌, ◌+◌, ◌==◌, Bool, ap}
use Rattle.tia_chip.proofs.OwedLemmas.{latched-made}
use Rattle.tia_chip.specs.Private.Lines.{unlatched_line, with_beam, with_line}
use Rattle.tia_chip.specs.Private.Owed.{made_steps}
use Rattle.tia_chip.specs.declared.line.Line.{Line}
use Rattle.tia_chip.specs.declared.state.TiaState.{TiaState}
use Rattle.tia_chip.proofs.calm.pass_latched.Goals as goal

pub returns-clause-value : goal.returns-clause-value
returns-clause-value c =
    let owed = c.args.owed.now in
    let t = c.args.tia.now in
    let n = c.args.count in
    let is_over = c.move_beam-is_over.result in
    rw c.from.ensures
    (ap (λ (x : TiaState). made_steps (owed.steps + n) is_over x) c.move_beam-is_over.ensures.value
    ∙ (ap (λ (x : TiaState). made_steps (owed.steps + n) is_over (with_beam is_over n x)) c.set_line.ensures.value
    ∙ (ap (λ (l : Line). made_steps (owed.steps + n) is_over (with_beam is_over n (with_line l t))) c.unlatched_line-line.ensures
    ∙ (ap (λ (b : Bool). made_steps (owed.steps + n) b (with_beam b n (with_line (unlatched_line n t) t))) (c.move_beam-is_over.ensures.over ∙ ap (λ (x : TiaState). x.clock + n == 228) c.set_line.ensures.value)
    ∙ latched-made owed.steps n owed.looked t c.requires.some c.requires.calm c.requires.end c.requires.latched))))
