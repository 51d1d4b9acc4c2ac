use Rattle.std.proofs.Common.{◌≡◌, ◌-◌, ◌*◌, arith, subst}
use Rattle.movie_hints.specs.Hints.{TellsInput}
use Rattle.movie_hints.proofs.inputs.hint_of_triples.Goals as goal

pub returns-in-BadInput : goal.returns-in-BadInput
returns-in-BadInput c =
    let before : c.saturating_sub-before.result ≡ c.in-BadInput.number - 1 = omega (arith, c.saturating_sub-before.ensures) in
    rw c.in-BadInput.is
    (λ few.
    let first : c.saturating_mul.result ≡ 3 * (c.in-BadInput.number - 1) = omega (arith, before, few, c.saturating_mul.ensures) in
    subst (λ at. TellsInput c.args.bytes.now at c.wrong_input.result) first (c.wrong_input.ensures (omega (arith, first, few))))
