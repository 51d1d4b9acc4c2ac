use Rattle.std.proofs.Common.{◌∙◌}
use Rattle.tia_core.specs.Coverage.{copies_of, distance_of}
use Rattle.tia_core.proofs.RoundTheLine.{distance_of-inside, list_any-same}
use Rattle.tia_core.proofs.object_masks.player_pattern.Goals as goal

pub returns : goal.returns
returns c = λ x p h.
    c.of_row.ensures (distance_of x p 0) (distance_of-inside x p 0 h)
    ∙ c.row_of_copies.ensures x p h
    ∙ list_any-same _ _ (copies_of c.args.mode) (λ copy. c.player_row.ensures.value (distance_of x p copy))
