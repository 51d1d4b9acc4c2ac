use Rattle.std.proofs.Common.{◌∙◌, ℕ, ◌-◌, ◌%◌, ◌&&◌, Bool, ap}
use Rattle.std.specs.Prelude.{nat_lt}
use Rattle.tia_chip.proofs.QuietSteps.{last-lit, player-seen}
use Rattle.tia_chip.specs.Quiet.{age_of, counter_after, player_mask}
use Rattle.tia_chip.proofs.player.Player.quiet_steps.Goals as goal

pub returns-clause-value : goal.returns-clause-value
returns-clause-value c =
    let p = c.args.self.now in
    let n = c.args.count in
    let lit : ℕ → Bool = λ k. player_mask p (counter_after k p.counter) in
    let last = c.lit_steps-lit.ensures (n - 1) ∙ ap (λ (b : Bool). nat_lt (n - 1) n && b) (c.shape.ensures (age_of (p.nusiz % 8) (counter_after (n - 1) p.counter))) in
    let seen = c.has_pixel-self.ensures ∙ last-lit n c.lit_steps-lit.result lit c.requires.some last in
    rw (c.quiet_copy-self.ensures.value, c.counter_after-self.ensures.value) (player-seen n p c.has_pixel-self.result c.requires.some seen)
