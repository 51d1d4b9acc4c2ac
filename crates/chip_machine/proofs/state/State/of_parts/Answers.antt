use Rattle.std.proofs.Common.{◌∙◌, ap, subst}
use Rattle.mos_cpu.specs.Registers.{Registers, IsStatus}
use Rattle.tia_chip.specs.Numbers.{is_settled, is_tia}
use Rattle.chip_machine.proofs.StateLemmas.{state_of_parts}
use Rattle.chip_machine.proofs.state.State.of_parts.Goals as goal

pub invariant_of-result : goal.invariant_of-result
invariant_of-result c =
    state_of_parts _ (subst (λ (r : Registers). IsStatus r.p) c.cpu.view_is c.cpu.invariant) c.fields.ensures.lawful
    (ap is_tia c.state.ensures ∙ c.requires.tia) (ap is_settled c.state.ensures ∙ c.requires.settled) (rw c.state.ensures c.requires.aligned)
