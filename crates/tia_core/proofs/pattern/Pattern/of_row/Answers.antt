use Rattle.tia_core.specs.Bits.{has_bit}
use Rattle.tia_core.proofs.PatternLemmas.{last-word-of-row, ten-round, ten-words, word-of-row}
use Rattle.tia_core.proofs.MaskWordLemmas.{bit-high, bit-low}
use Rattle.tia_core.proofs.pattern.Pattern.of_row.Goals as goal

pub invariant_of-result : goal.invariant_of-result
invariant_of-result c =
    let row = c.args.row in
    ten-round _ _ _ _ _ (has_bit row) (bit-low row 64) (word-of-row row 32) (λ j h. bit-high row 64 j) (λ j h. bit-high row 96 j)
    (λ j. last-word-of-row row j c.ranges.row.fits)

pub returns : goal.returns
returns c =
    let row = c.args.row in
    ten-words _ _ _ _ _ (has_bit row) (bit-low row 64) (word-of-row row 32) (λ j h. bit-high row 64 j) (λ j h. bit-high row 96 j)
    (λ j. last-word-of-row row j c.ranges.row.fits)
