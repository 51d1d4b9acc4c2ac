use Rattle.tia_core.proofs.FieldLemmas.{fields_after-lawful}
use Rattle.tia_core.proofs.MaskFits.{fit-marked}
use Rattle.tia_core.proofs.tia.Tia.write.Goals as goal

pub invariant_of-self : goal.invariant_of-self
invariant_of-self c =
    let fields = c.self.inside.fields in
    let w = c.write_register-written in (
      rw w.ensures.value (fields_after-lawful fields c.self.inside.fire0 c.self.inside.fire1 c.from_number-register.result c.args.value c.self.invariant.0),
      rw w.ensures.marked.masks (fit-marked fields w.new.tia c.self.inside.masks w.result.changed w.new.masks.visible w.ensures.marked.touched w.ensures.marked.reshaped w.ensures.marked.visible c.self.invariant.1),
    )
