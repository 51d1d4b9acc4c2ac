use Rattle.std.proofs.Common.{◌-◌, ◌*◌, ◌∙◌, arith}
use Rattle.tia_core.proofs.LawfulNumbers.{lawful_of}
use Rattle.vcs_machine.proofs.LagLemmas.{read-buttons, read-pairs}
use Rattle.vcs_machine.proofs.devices.Devices.peek_tia.Goals as goal

pub returns-then-register-ge8 : goal.returns-then-register-ge8
returns-then-register-ge8 g c =
    let d = c.args.self.now in
    let lawful = rw c.fields-fields.ensures.value at c.fields-fields.ensures.lawful in
    c.read.ensures ∙ read-buttons (3 * (76 - d.lag_left)) d.tia c.args.register (lawful_of _ lawful).clock c.if-register-ge8.true

pub returns : goal.returns
returns g c = grind (arith, read-pairs)
