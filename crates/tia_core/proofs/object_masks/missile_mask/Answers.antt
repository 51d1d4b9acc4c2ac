use Rattle.std.proofs.Common.{◌∙◌}
use Rattle.tia_core.specs.Coverage.{copies_of, distance_of}
use Rattle.tia_core.proofs.RoundTheLine.{list_any-same}
use Rattle.tia_core.proofs.object_masks.missile_mask.Goals as goal

pub returns : goal.returns
returns c = λ x h. c.mask_of_copies.ensures x h ∙ list_any-same _ _ (copies_of c.args.mode) (λ k. c.missile_row.ensures.value (distance_of x c.args.position k))
