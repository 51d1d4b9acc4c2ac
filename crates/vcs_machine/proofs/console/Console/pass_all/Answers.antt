use Rattle.std.proofs.Common.{◌≡◌, ℕ, ◌+◌, ◌-◌, ◌∙◌, ap, arith}
use Rattle.vcs_machine.specs.Consoles.{meaning_of, passed}
use Rattle.vcs_machine.proofs.PollLemmas.{passed-add}
use Rattle.vcs_machine.proofs.console.Console.pass_all.Goals as goal

pub loop-left-preserved : goal.loop-left-preserved
unfolding meaning_of
loop-left-preserved g c =
    let more = c.loop-left-test.true in
    let sum : 76 + (c.loop-left.left - 76) ≡ c.loop-left.left = omega (arith, more) in
    rw c.pass.ensures
    (passed-add g.S.Paint.drawn c.loop-left.self 76 (c.loop-left.left - 76)
    ∙ ap (λ (n : ℕ). passed g.S.Paint.drawn c.loop-left.self n) sum
    ∙ c.loop-left.invariant)
