use Rattle.std.proofs.Common.{◌-◌}
use Rattle.tia_core.specs.Private.ObjectSets.{bl, m0, m1, p0, p1, pf}
use Rattle.tia_core.specs.Private.StretchPairs.{meet_within}
use Rattle.tia_core.proofs.Windows.{number-by-groups}
use Rattle.tia_core.proofs.window.Window.pairs.Goals as goal

pub returns-clause-value : goal.returns-clause-value
returns-clause-value c =
    let t = c.args.tia.now in
    let x = c.args.from in
    let k = c.args.to - x in
    rw (
      c.pairs_of_missile0.ensures.value,
      c.pairs_of_missile1.ensures.value,
      c.pairs_of_player0.ensures.value,
      c.pairs_of_player1.ensures.value,
      c.pairs_of_ball.ensures.value,
    )
    (number-by-groups (meet_within t m0 p1 x k) (meet_within t m0 p0 x k) (meet_within t m1 p0 x k) (meet_within t m1 p1 x k)
    (meet_within t p0 pf x k) (meet_within t p0 bl x k) (meet_within t p1 pf x k) (meet_within t p1 bl x k)
    (meet_within t m0 pf x k) (meet_within t m0 bl x k) (meet_within t m1 pf x k) (meet_within t m1 bl x k)
    (meet_within t bl pf x k) (meet_within t p0 p1 x k) (meet_within t m0 m1 x k))
