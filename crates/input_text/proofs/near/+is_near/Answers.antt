use Rattle.input_text.specs.Mistakes.{small}
use Rattle.input_text.proofs.Edits.{near_first, near_on}
use Rattle.input_text.proofs.near.+is_near.Goals as goal

pub returns-then-begin_alike : goal.returns-then-begin_alike
returns-then-begin_alike t c =
    let more = near_on c.args.word.now c.args.name.now (c.begin_alike.ensures.0 c.if-begin_alike.true) in
    let is = rw (c.without_first.ensures, c.without_first-then-begin_alike.ensures) at c.is_near.ensures in
    (λ h. more.0 (is.0 h), λ h. is.1 (more.1 h))

pub returns-else-begin_alike : goal.returns-else-begin_alike
returns-else-begin_alike t c =
    let more = near_first (small c.args.word.now) (small c.args.name.now) (λ alike. let is = c.begin_alike.ensures.1 alike in cc) in
    (λ h. more.0 (c.is_near_first.ensures.0 h), λ h. c.is_near_first.ensures.1 (more.1 h))
