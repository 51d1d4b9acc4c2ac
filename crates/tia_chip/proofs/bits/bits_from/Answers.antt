use Rattle.std.proofs.Common.{arith}
use Rattle.tia_chip.proofs.WordLemmas.{bits-gone}
use Rattle.tia_core.proofs.MaskWordLemmas.{bit-high}
use Rattle.tia_chip.proofs.bits.bits_from.Goals as goal

pub returns-then-count-lt64 : goal.returns-then-count-lt64
returns-then-count-lt64 c = λ k. bit-high c.args.word c.args.count k

pub returns-else-count-lt64 : goal.returns-else-count-lt64
returns-else-count-lt64 c = λ k. bits-gone c.args.word c.args.count k c.ranges.word.fits (omega arith)
