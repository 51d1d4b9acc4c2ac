use Rattle.input_text.proofs.Edits.{one_more}
use Rattle.input_text.proofs.near.has_one_more.Goals as goal

pub returns-in-len1-up : goal.returns-in-len1-up
returns-in-len1-up c =
    let more = one_more c.args.word.now c.args.name.now c.in-len1-up.len_at_least in
    (λ h. more.0 (c.eq_ignore_ascii_case.ensures.test.0 h), λ h. c.eq_ignore_ascii_case.ensures.test.1 (more.1 h))
