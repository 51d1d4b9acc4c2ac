use Rattle.std.proofs.Common.{◌≡◌, ◌+◌, ◌%◌, arith}
use Rattle.tia_core.proofs.LinePlaces.{moved-round}
use Rattle.tia_core.proofs.position.moved_position.Goals.{then-moved-lt160, else-moved-lt160}
use Rattle.tia_core.proofs.position.moved_position.Goals as goal

pub returns-clause-value : goal.returns-clause-value
returns-clause-value c =
    let range = c.pixels_right.ensures.range in
    let moved : c.if-moved-lt160.result ≡ (c.args.position + c.pixels_right.result) % 160 = elim c.if-moved-lt160.branch [
      | then-moved-lt160 w ↦ omega (arith, w.result-is, w.if-moved-lt160.true)
      | else-moved-lt160 w ↦ omega (arith, w.result-is, w.if-moved-lt160.false)
    ] in
    moved-round c.args.motion c.args.position c.pixels_right.result c.if-moved-lt160.result c.ranges.motion.fits c.requires c.pixels_right.ensures.value
    moved
