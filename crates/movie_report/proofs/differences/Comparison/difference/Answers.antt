use Rattle.movie_report.proofs.differences.Comparison.difference.Goals as goal

pub returns-in-Lines-Start : goal.returns-in-Lines-Start
returns-in-Lines-Start c = rw (c.in-Lines-Start.is-0, c.in-Lines-Start.is-1, ← c.in_ok-first.ensures, ← c.in_ok-second.ensures) c.format.ensures.ok
