use Rattle.std.proofs.Common.{arith, ◌%◌, refl}
use Rattle.std.proofs.lemmas.Nat.{and_mask}
use Rattle.mos_cpu.specs.Decimal.{high_digit, low_sum, decimal_sum_of, corrected_of}
use Rattle.mos_cpu.proofs.SumLemmas.{top_bits-overflow, signed_sum-modulo}
use Rattle.mos_cpu.proofs.DecimalLemmas.{low_sum-lt}
use Rattle.mos_cpu.proofs.decimal.decimal_adc.Goals as goal

pub returns-clause-result : goal.returns-clause-result
returns-clause-result c =
    let a = c.args.a in
    let m = c.args.m in
    let low = low_sum a m c.args.p in
    let sum = decimal_sum_of a m c.args.p in
    let small = low_sum-lt a m c.args.p in
    let middle = and_mask sum 8 in
    let value = and_mask (corrected_of sum) 8 in
    let negative = signed_sum-modulo (high_digit a) (high_digit m) low (omega arith) (omega arith) in
    let overflow = top_bits-overflow a m (high_digit a) (high_digit m) low (sum % 256)
    (omega arith) (omega arith) (omega arith) (omega arith) (omega arith) refl in
    cc
