use Rattle.std.proofs.Common.{arith}
use Rattle.std.proofs.lemmas.Nat.{one_shl}
use Rattle.tia_core.proofs.MaskWordLemmas.{stretch-word, powers-order}
use Rattle.tia_core.proofs.mask.ones.Goals as goal

pub overflow_sub-result : goal.overflow_sub-result
overflow_sub-result c =
    rw (one_shl c.left_of.result 64 (omega arith), one_shl c.left_of-2.result 64 (omega arith))
    (powers-order c.left_of-2.result c.left_of.result (omega arith))

pub returns : goal.returns
returns c = λ k h.
    stretch-word c.args.from c.args.to c.args.first c.left_of-2.result c.left_of.result k c.left_of-2.ensures c.left_of.ensures c.requires h
