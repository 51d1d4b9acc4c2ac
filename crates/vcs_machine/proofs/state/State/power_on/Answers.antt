use Rattle.std.proofs.Common.{refl}
use Rattle.vcs_machine.proofs.StateLemmas.{state_of_parts}
use Rattle.vcs_machine.proofs.state.State.power_on.Goals as goal

pub invariant_of-result : goal.invariant_of-result
invariant_of-result c =
    state_of_parts _ (record {
      status = refl;
      riot = c.fields.ensures.lawful;
      tia = c.fields-2.ensures.lawful;
      aligned = rw (c.fields-2.ensures.value, c.power_on-2.ensures) refl;
      bank = c.bank_at_power_on-bank.ensures.range;
    })
