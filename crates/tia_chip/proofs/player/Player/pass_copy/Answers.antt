use Rattle.std.proofs.Common.{◌∙◌, false, ap, sym}
use Rattle.tia_chip.proofs.QuietPlayers.{player-steps}
use Rattle.tia_chip.specs.declared.player.Player.{Player}
use Rattle.tia_chip.proofs.player.Player.pass_copy.Goals as goal

pub returns-then-is_quiet-clause-value : goal.returns-then-is_quiet-clause-value
returns-then-is_quiet-clause-value c =
    let quiet = c.is_quiet.ensures c.if-is_quiet.true in
    c.pass_quiet.ensures.value ∙ ap (λ (p : Player). record p { seen = false }) (sym (player-steps c.args.self.now c.args.count quiet))
