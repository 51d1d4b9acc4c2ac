use Rattle.input_text.proofs.Edits.{one_changed}
use Rattle.input_text.proofs.near.is_changed.Goals as goal

pub returns-in-len1-up : goal.returns-in-len1-up
returns-in-len1-up c =
    let more = one_changed c.args.word.now c.args.name.now c.in-len1-up.len_at_least in
    (λ h. more.0 (c.has_one_more.ensures.0 h), λ h. c.has_one_more.ensures.1 (more.1 h))
