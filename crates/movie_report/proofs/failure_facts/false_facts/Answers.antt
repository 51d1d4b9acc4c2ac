use Rattle.std.proofs.lemmas.Result.{IfOk-weaker}
use Rattle.movie_report.proofs.FirstSignLemmas.{IsFirst-false}
use Rattle.movie_report.proofs.failure_facts.false_facts.Goals as goal

pub signs_of-requires-after_bounds : goal.signs_of-requires-after_bounds
signs_of-requires-after_bounds g c κs within =
    rw c.from-before.ensures (IsFirst-false c.args.movie.now c.args.number c.args.frame c.frames-before.ensures.lawful c.requires)

pub returns : goal.returns
returns g c =
    let place = rw c.in_ok-frame_in.ensures.frame at c.in_ok-place.ensures in
    let claim = rw c.cart.ensures at c.in_ok-claim.ensures in
    let segments = rw c.deref.ensures.value at c.in_ok-segments.ensures in
    let claims = rw (c.deref-2.ensures.value, c.in_ok-found-2.ensures.signs) at c.in_ok-claims.ensures in
    let reason = rw c.deref-3.ensures.value at c.in_ok-reason.ensures in
    let trial = rw c.in_ok-trial.ensures.trial at c.in_ok-trial-2.ensures in
    IfOk-weaker c.format.result _ _
    (λ text is. (
      c.in_ok-signs.signs.items,
      c.in_ok-signs.ensures.signs,
      rw (c.checkpoint.ensures, c.in_ok-found.ensures.ran, ← claim, ← place, ← segments, ← claims, ← reason, ← trial) is,
    ))
    c.format.ensures.ok
