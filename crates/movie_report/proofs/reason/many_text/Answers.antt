use Rattle.movie_report.proofs.reason.many_text.Goals as goal

pub returns : goal.returns
returns c = rw (← c.first_text-start.ensures) c.format.ensures.ok
