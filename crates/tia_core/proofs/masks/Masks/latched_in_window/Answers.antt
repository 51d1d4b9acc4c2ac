use Rattle.std.proofs.Common.{◌≡◌, ◌∙◌, ◌-◌, ◌+◌, ℕ, arith}
use Rattle.tia_core.proofs.PairLemmas.{stretch-none}
use Rattle.tia_core.proofs.Windows.{is-before, none-in-window}
use Rattle.tia_core.proofs.masks.Masks.latched_in_window.Goals as goal

pub returns-clause-value : goal.returns-clause-value
returns-clause-value c =
    let t = c.args.tia.now in
    stretch-none t t.collisions c.args.from (c.args.to - c.args.from) (λ y le lt.
    let k : ℕ = y - c.args.from in
    let at : c.args.from + k ≡ y = omega arith in
    rw (← at) (none-in-window t c.args.from c.window-window.result k c.window-window.ensures.window (omega arith) (omega arith)
    (c.any_two_meet.ensures c.if-any_two_meet.false k (c.pixels.ensures k ∙ is-before k (c.args.to - c.args.from) (omega arith)))))
