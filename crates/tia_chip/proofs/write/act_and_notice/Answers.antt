use Rattle.std.proofs.Common.{◌∙◌, sym}
use Rattle.tia_chip.proofs.ShownWrites.{acts-alone}
use Rattle.tia_chip.proofs.write.act_and_notice.Goals as goal

pub returns-then-keeps_shown-clause-value : goal.returns-then-keeps_shown-clause-value
returns-then-keeps_shown-clause-value c =
    let shown = c.keeps_shown.ensures in
    c.act.ensures.value ∙ acts-alone c.args.register c.args.value c.args.tia.now (sym shown ∙ c.if-keeps_shown.true)
