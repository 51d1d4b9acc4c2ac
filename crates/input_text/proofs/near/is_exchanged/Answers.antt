use Rattle.input_text.proofs.Edits.{one_exchanged}
use Rattle.input_text.proofs.near.is_exchanged.Goals as goal

pub returns-then-are_exchanged : goal.returns-then-are_exchanged
returns-then-are_exchanged c =
    let more = one_exchanged c.args.word.now c.args.name.now c.in-len2-up.len_at_least c.in-len2-up-name.len_at_least in
    let are = c.are_exchanged.ensures.0 c.if-are_exchanged.true in
    (λ h. more.0 (are.0, are.1, c.eq_ignore_ascii_case.ensures.test.0 h), λ h. c.eq_ignore_ascii_case.ensures.test.1 (more.1 h).2)

pub returns-else-are_exchanged : goal.returns-else-are_exchanged
returns-else-are_exchanged c =
    let more = one_exchanged c.args.word.now c.args.name.now c.in-len2-up.len_at_least c.in-len2-up-name.len_at_least in
    (λ h. cc, λ h. let are = c.are_exchanged.ensures.1 ((more.1 h).0, (more.1 h).1) in cc)
