use Rattle.std.proofs.Common.{◌∙◌}
use Rattle.tia_core.specs.Coverage.{distance_of}
use Rattle.tia_core.proofs.RoundTheLine.{distance_of-inside}
use Rattle.tia_core.proofs.object_masks.ball_pattern.Goals as goal

pub returns : goal.returns
returns c = λ x p h.
    c.of_row.ensures (distance_of x p 0) (distance_of-inside x p 0 h)
    ∙ rw c.from.ensures (c.missile_row.ensures.value (distance_of x p 0))
