use Rattle.std.proofs.Common.{◌∙◌, ap}
use Rattle.tia_chip.proofs.OwedWrites.{action-made, action-still}
use Rattle.tia_chip.specs.Motion.{any_moves}
use Rattle.tia_chip.specs.Private.Owed.{made_steps}
use Rattle.tia_chip.specs.Write.{after_action}
use Rattle.tia_chip.proofs.chip.act_owing.Goals as goal

pub returns-clause-value : goal.returns-clause-value
returns-clause-value c =
    let r = c.args.register in
    let v = c.args.value in
    let owed = c.settle_for.new.self in
    let made = c.settle_for.ensures in
    ap (made_steps owed.steps owed.looked) c.act_and_notice.ensures.value
    ∙ (action-made r v owed.steps owed.looked c.settle_for.new.tia made.none ∙ ap (after_action r v) made.value)

pub returns-clause-still : goal.returns-clause-still
returns-clause-still c = λ some.
    let made = c.settle_for.ensures in
    ap any_moves c.act_and_notice.ensures.value ∙ action-still c.args.register c.args.value c.settle_for.new.self.steps c.settle_for.new.tia made.none made.still some
