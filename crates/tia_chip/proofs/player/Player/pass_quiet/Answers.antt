use Rattle.std.proofs.Common.{◌∙◌, ℕ, false, ap, sym}
use Rattle.tia_chip.proofs.LatchedLines.{player-forgotten}
use Rattle.tia_chip.specs.Quiet.{quiet_player_after}
use Rattle.tia_chip.proofs.player.Player.pass_quiet.Goals as goal

pub returns-clause-value : goal.returns-clause-value
returns-clause-value c =
    rw (c.quiet_copy-self.ensures.value, c.counter_after-self.ensures.value) (player-forgotten c.args.count c.args.self.now c.requires.some)

pub returns-then-count-eq160-clause-value : goal.returns-then-count-eq160-clause-value
returns-then-count-eq160-clause-value c =
    c.pass_line.ensures.value ∙ ap (λ (n : ℕ). record (quiet_player_after n c.args.self.now) { seen = false }) (sym c.if-count-eq160.true)
