use Rattle.input_text.proofs.Edits.{alike_at}
use Rattle.input_text.proofs.near.begin_alike.Goals as goal

pub returns : goal.returns
returns c =
    let alike = alike_at c.args.word.now c.args.name.now c.in-len1-up.len_at_least c.in-len1-up-name.len_at_least in
    (λ h. alike.0 (c.is_same.ensures.0 h), λ h. c.is_same.ensures.1 (alike.1 h))
