use Rattle.std.proofs.Common.{refl}
use Rattle.commands.proofs.refusal.refusal.Goals as goal

pub returns : goal.returns
returns c =
    (c.hint_of-hint.result, c.hint_of-hint.ensures, rw (c.with_remark.ensures, c.of_text-answer.ensures, c.remark_if.ensures, c.in_ok-text.ensures) refl)
