use Rattle.std.proofs.Common.{◌∙◌, false, ap, sym}
use Rattle.tia_chip.proofs.QuietSteps.{missile-quiet_steps}
use Rattle.tia_chip.specs.declared.missile.Missile.{Missile}
use Rattle.tia_chip.proofs.missile.Missile.pass_copy.Goals as goal

pub returns-then-is_quiet-clause-value : goal.returns-then-is_quiet-clause-value
returns-then-is_quiet-clause-value c =
    let quiet = c.is_quiet.ensures c.if-is_quiet.true in
    c.pass_quiet.ensures.value
    ∙ ap (λ (m : Missile). record m { seen = false }) (sym (missile-quiet_steps c.args.count c.args.nusiz c.args.clock c.args.self.now quiet c.requires.still))
