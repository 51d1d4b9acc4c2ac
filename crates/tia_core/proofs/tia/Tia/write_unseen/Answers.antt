use Rattle.std.proofs.Common.{inl, inr, sym, ap, ◌∙◌}
use Rattle.std.proofs.lemmas.Bool.{cases_Bool}
use Rattle.tia_core.specs.Private.ObjectSets.{set_number}
use Rattle.tia_core.specs.Write.{tia_after_write}
use Rattle.tia_core.specs.declared.write.Changed.TheVariants.{Nothing}
use Rattle.tia_core.proofs.FieldLemmas.{fields_after-lawful}
use Rattle.tia_core.proofs.MaskFits.{fit-marked}
use Rattle.tia_core.proofs.UnseenWrites.{clocks-after-unseen}
use Rattle.tia_core.specs.Registers.{register_of}
use Rattle.tia_core.proofs.tia.Tia.write_unseen.Goals as goal

pub invariant_of-self : goal.invariant_of-self
invariant_of-self c =
    let w = c.write_unseen in
    let inside = c.self.inside in (
      elim (cases_Bool w.result) [
        | inl written ↦
            rw (w.ensures.value written inside.fire0 inside.fire1)
            (fields_after-lawful inside.fields inside.fire0 inside.fire1 (register_of c.args.number) c.args.value c.self.invariant.0)
        | inr other ↦ rw (w.ensures.others other) c.self.invariant.0
      ],
      fit-marked inside.fields w.new.fields inside.masks Nothing inside.masks.visible w.ensures.objects w.ensures.placed
          (c.self.invariant.1.visible ∙ ap set_number (sym w.ensures.visible)) c.self.invariant.1,
    )

pub returns-clause-state : goal.returns-clause-state
unfolding tia_after_write
returns-clause-state c = λ written n.
    let w = c.write_unseen in
    let inside = c.self.inside in
    rw (w.ensures.value written inside.fire0 inside.fire1, ← c.self.view_is)
    (clocks-after-unseen n _ c.args.number c.args.value (w.ensures.unseen written))
