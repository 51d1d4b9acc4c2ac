use Rattle.std.proofs.Common.{◌∙◌, sym, ap}
use Rattle.std.proofs.lemmas.Slice.Eq.{bytes_eq-Decides}
use Rattle.record_table.specs.Numbers.{bytes_of}
use Rattle.tia_chip.specs.Numbers.{tia_numbers}
use Rattle.tia_chip.specs.declared.state.TiaState.{TiaState}
use Rattle.chip_machine.specs.States.{StateData}
use Rattle.chip_machine.proofs.RecordLaws.{same_tias}
use Rattle.chip_machine.proofs.StateLemmas.{state_tia}
use Rattle.chip_machine.proofs.state.State.has_tia_of.Goals as goal

pub tia_bytes-requires : goal.tia_bytes-requires
tia_bytes-requires c = state_tia c.self.inside.fields c.self.invariant

pub tia_bytes-requires-2 : goal.tia_bytes-requires-2
tia_bytes-requires-2 c = state_tia c.other.inside.fields c.other.invariant

pub returns : goal.returns
returns c =
    let one = ap (λ (s : StateData). s.fields.tia) c.self.view_is in
    let other = ap (λ (s : StateData). s.fields.tia) c.other.view_is in
    let decides = bytes_eq-Decides c.tia_bytes.result c.tia_bytes-2.result in (
      λ equal.
          let bytes = decides.0 (sym c.eq.ensures ∙ equal) in
          sym one
          ∙ same_tias c.self.inside.fields c.other.inside.fields c.self.invariant c.other.invariant (sym c.tia_bytes.ensures ∙ bytes ∙ c.tia_bytes-2.ensures)
          ∙ other,
      λ same.
          c.eq.ensures
          ∙ decides.1 (c.tia_bytes.ensures ∙ ap (λ (t : TiaState). bytes_of tia_numbers t) (one ∙ same ∙ sym other) ∙ sym c.tia_bytes-2.ensures),
    )
