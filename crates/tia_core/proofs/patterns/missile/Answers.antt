use Rattle.std.proofs.Common.{◌∙◌}
use Rattle.tia_core.specs.Coverage.{distance_of}
use Rattle.tia_core.proofs.RoundTheLine.{distance_of-inside}
use Rattle.tia_core.proofs.MaskWordLemmas.{bit-zero}
use Rattle.tia_core.proofs.patterns.missile.Goals as goal

pub returns-else-has_bit : goal.returns-else-has_bit
returns-else-has_bit c = λ x p h.
    rw (← c.has_bit.ensures, c.if-has_bit.false)
    (c.of_row.ensures (distance_of x p 0) (distance_of-inside x p 0 h) ∙ bit-zero (distance_of x p 0))
