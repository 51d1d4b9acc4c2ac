use Rattle.std.proofs.Common.{◌∙◌, ℕ, false, ap, sym}
use Rattle.tia_chip.specs.Quiet.{quiet_missile_after}
use Rattle.tia_chip.proofs.missile.Missile.pass_quiet.Goals as goal

pub returns-then-count-eq160-clause-value : goal.returns-then-count-eq160-clause-value
returns-then-count-eq160-clause-value c =
    c.pass_line.ensures.value ∙ ap (λ (n : ℕ). record (quiet_missile_after c.args.nusiz n c.args.self.now) { seen = false }) (sym c.if-count-eq160.true)
