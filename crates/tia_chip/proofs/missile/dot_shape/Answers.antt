use Rattle.std.proofs.Common.{◌∙◌, ℕ, ◌+◌, ◌-◌, ap, arith}
use Rattle.std.proofs.lemmas.Nat.{one_shl}
use Rattle.tia_core.proofs.MaskWordLemmas.{powers-order, stretch-bit}
use Rattle.tia_chip.specs.Bits.{has_bit}
use Rattle.tia_chip.proofs.missile.dot_shape.Goals as goal

pub returns : goal.returns
returns c = λ age.
    let size = c.args.size in
    ap (λ (n : ℕ). has_bit (n - 16) age) (one_shl (4 + size) 64 (omega arith)) ∙ stretch-bit 4 (4 + size) age (omega arith)

pub overflow_sub-result : goal.overflow_sub-result
overflow_sub-result c = rw (one_shl (4 + c.args.size) 64 (omega arith)) (powers-order 4 (4 + c.args.size) (omega arith))
