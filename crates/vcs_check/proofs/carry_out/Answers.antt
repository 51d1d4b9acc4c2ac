use Rattle.vcs_check.proofs.carry_out.Goals as goal

pub returns : goal.returns
returns g c =
    let answered = c.answer_line-answer.ensures in
    (c.answer_line-answer.result, _, answered.ok, answered.quiet, answered.part, c.conclude.ensures)
