use Rattle.std.proofs.Common.{◌≡◌, ℕ, replicate, ap, ◌∙◌, arith}
use Rattle.vcs_machine.proofs.picture.blank_rows.Goals as goal

pub returns-clause-value : goal.returns-clause-value
returns-clause-value c =
    let all : c.loop-row._row ≡ 322 = omega (arith, c.loop-row-test.false, c.loop-row.auto._row-end) in
    c.loop-row.invariant.items ∙ ap (λ (n : ℕ). replicate n (replicate 160 0)) all
