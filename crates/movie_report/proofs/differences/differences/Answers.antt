use Rattle.movie_report.proofs.DifferenceLemmas.{AreElements-pairs_text}
use Rattle.movie_report.proofs.differences.differences.Goals as goal

pub without_comma-elements-requires : goal.without_comma-elements-requires
without_comma-elements-requires c =
    rw (c.deref.ensures, c.in_ok-pairs.ensures, c.in-Json.is) (AreElements-pairs_text c.args.comparison _ c.args.first.now c.args.second.now)
