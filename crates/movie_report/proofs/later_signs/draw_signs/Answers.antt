use Rattle.std.proofs.Common.{◌+◌}
use Rattle.movie_report.specs.Segments.{HasSign}
use Rattle.movie_report.proofs.FoundSignLemmas.{kept_if_ok, row_with}
use Rattle.movie_report.proofs.later_signs.draw_signs.Goals as goal

pub loop-preserved : goal.loop-preserved
loop-preserved g c =
    let place = c.fetch_add-place.result in
    let found = kept_if_ok (HasSign c.args.movie.now c.args.cuts.now (c.args.from + place)) c.segment_sign.result c.segment_sign.ensures.sign in
    row_with c.args.movie.now c.args.cuts.now c.args.from c.args.count place c.ok.result c.loop.row (rw c.ok.ensures.value found) c.loop.invariant
