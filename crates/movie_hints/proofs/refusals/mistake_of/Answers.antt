use Rattle.std.proofs.Common.{◌≡◌, ◌∙◌, ◌-◌, ap, arith, subst}
use Rattle.movie_hints.specs.Hints.{TellsInput}
use Rattle.movie_hints.specs.Places.{input_place}
use Rattle.movie_hints.proofs.refusals.mistake_of.Goals as goal

pub returns-in-BadInput-clause-some : goal.returns-in-BadInput-clause-some
returns-in-BadInput-clause-some c =
    let bytes = c.args.bytes.now in
    let before : c.saturating_sub.result ≡ c.in-BadInput.number - 1 = omega (arith, c.saturating_sub.ensures) in
    rw c.in-BadInput.is
    (λ few.
    let place = c.input-first.ensures.said bytes c.of-places.ensures (omega (arith, before)) ∙ ap (input_place bytes) before in
    subst (λ at. TellsInput bytes at c.wrong_input.result) place (c.wrong_input.ensures (c.input-first.ensures.few (omega (arith, before)))))
