use Rattle.input_text.proofs.MeantNames.{meant_first, meant_later}
use Rattle.input_text.proofs.near.+meant_among.Goals as goal

pub returns-then-is_near : goal.returns-then-is_near
returns-then-is_near t c =
    let near = rw (c.as_bytes.ensures.value, c.named_bit.ensures.word) at c.is_near.ensures.0 c.if-is_near.true in
    meant_first c.args.word.now c.args.names.now _ c.named_bit.result.word c.in-len1-up.len_at_least near c.named_bit.ensures.word

pub returns-else-is_near : goal.returns-else-is_near
returns-else-is_near t c =
    let is = rw (c.as_bytes.ensures.value, c.named_bit.ensures.word) at c.is_near.ensures in
    meant_later c.args.word.now c.args.names.now _ c.meant_among.result c.in-len1-up.len_at_least
    (λ near. let bad = is.1 near in cc) c.meant_among.ensures
