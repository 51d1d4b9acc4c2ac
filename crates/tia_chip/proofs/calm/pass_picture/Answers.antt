use Rattle.std.proofs.Common.{◌∙◌, ap}
use Rattle.tia_chip.proofs.LineLemmas.{picture-some}
use Rattle.tia_chip.specs.Private.Lines.{gone_on, with_line}
use Rattle.tia_chip.specs.declared.state.TiaState.{TiaState}
use Rattle.tia_chip.proofs.calm.pass_picture.Goals as goal

pub returns-clause-value : goal.returns-clause-value
returns-clause-value g c =
    let line = c.line_after-line.result in
    c.end_pixels.ensures.value
    ∙ (ap (λ (u : TiaState). gone_on c.args.count (with_line line u)) c.of_steps-lit.ensures.value
    ∙ picture-some c.args.count c.args.tia.now line c.requires.some c.requires.calm c.requires.end c.line_after-line.ensures.value)
