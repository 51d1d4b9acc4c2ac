use Rattle.movie_report.proofs.SignLemmas.{HasSign-piece}
use Rattle.movie_report.proofs.segments.segment_sign.Goals as goal

pub returns-in-Some-clause-sign : goal.returns-in-Some-clause-sign
returns-in-Some-clause-sign c =
    HasSign-piece c.args.movie.now c.args.cuts.now _ c.replay-piece.result c.args.number c.in-Some.verdict.now c.of.result c.verdict.ensures.lawful
    c.replay-piece.ensures.number
    c.replay-piece.ensures.job c.in-Some.ensures.some c.of.ensures
