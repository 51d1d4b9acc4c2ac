use Rattle.std.proofs.Common.{◌≡◌, ◌++◌, ◌∷◌, [], length, arith}
use Rattle.movie_report.proofs.FoundSignLemmas.{one_sign_more}
use Rattle.movie_report.proofs.later_signs.later_signs.Goals as goal

pub draw_by_workers-requires-clause-before : goal.draw_by_workers-requires-clause-before
draw_by_workers-requires-clause-before g c κs within =
    rw c.deref_mut.ensures.value (c.in_ok-rows.ensures.blank c.args.movie.now c.args.cuts.now c.args.from)

pub loop-place-preserved : goal.loop-place-preserved
loop-place-preserved g c =
    let signs = c.loop-place.signs.items in
    let counted : length c.loop-place.signs.items ≡ c.loop-place.place = c.loop-place.invariant.0 in
    let pushed : c.push.new.self.items ≡ c.loop-place.signs.items ++ c.in_ok-sign.sign ∷ [] = c.in_ok-push.ensures.items in (
      grind arith,
      rw pushed (
          one_sign_more c.args.movie.now c.args.cuts.now c.args.from signs c.in_ok-sign.sign c.loop-place.invariant.1
          (rw counted c.in_ok-sign.ensures.sign)),
    )
