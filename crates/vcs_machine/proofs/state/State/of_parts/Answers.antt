use Rattle.std.proofs.Common.{subst}
use Rattle.mos_cpu.specs.Registers.{Registers, IsStatus}
use Rattle.vcs_machine.proofs.StateLemmas.{state_of_parts}
use Rattle.vcs_machine.proofs.state.State.of_parts.Goals as goal

pub invariant_of-result : goal.invariant_of-result
invariant_of-result c =
    state_of_parts _ (record {
      status = subst (λ (r : Registers). IsStatus r.p) c.cpu.view_is c.cpu.invariant;
      riot = c.fields.ensures.lawful;
      tia = c.fields-2.ensures.lawful;
      aligned = rw c.fields-2.ensures.value c.requires.aligned;
      bank = c.requires.bank;
    })
