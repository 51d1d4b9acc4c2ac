use Rattle.std.proofs.Common.{◌≡◌, ◌∙◌, ℕ, ◌&&◌, ap, arith}
use Rattle.std.specs.Prelude.{nat_lt}
use Rattle.tia_chip.proofs.WordLemmas.{bits-all, bits-kept}
use Rattle.tia_chip.specs.Bits.{has_bit}
use Rattle.tia_chip.proofs.bits.first_bits.Goals as goal

pub returns-then-count-lt64 : goal.returns-then-count-lt64
returns-then-count-lt64 c = λ k. bits-kept c.args.word c.args.count k c.if-count-lt64.true

pub returns-else-count-lt64 : goal.returns-else-count-lt64
returns-else-count-lt64 c = λ k.
    let all : 64 ≡ c.args.count = omega arith in
    bits-all c.args.word k c.ranges.word.fits ∙ ap (λ (n : ℕ). nat_lt k n && has_bit c.args.word k) all
