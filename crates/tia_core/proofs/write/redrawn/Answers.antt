use Rattle.std.proofs.Common.{◌∙◌, ap, refl}
use Rattle.tia_core.specs.Private.ObjectSets.{set_number, visible_objects}
use Rattle.tia_core.specs.declared.masks.Masks.{Masks}
use Rattle.tia_core.proofs.write.redrawn.Goals as goal

pub returns-clause-masks : goal.returns-clause-masks
returns-clause-masks c =
    let written = c.reshaped-written in
    let before = ap (λ (m : Masks). m.visible) written.ensures.masks ∙ rw written.ensures.changed c.requires.before in
    let after = c.show.ensures.visible (visible_objects c.args.tia.now) before ∙ ap set_number c.requires.after in
    c.show.ensures.others ∙ rw (after, written.ensures.masks) refl
