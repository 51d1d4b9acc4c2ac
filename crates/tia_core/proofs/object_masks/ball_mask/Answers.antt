use Rattle.std.proofs.Common.{◌∙◌}
use Rattle.tia_core.specs.Coverage.{distance_of}
use Rattle.tia_core.proofs.object_masks.ball_mask.Goals as goal

pub returns : goal.returns
returns c = λ x h.
    c.place.ensures x h ∙ rw (c.empty-mask.ensures x h) (c.missile_row.ensures.value (distance_of x c.args.position 0))
