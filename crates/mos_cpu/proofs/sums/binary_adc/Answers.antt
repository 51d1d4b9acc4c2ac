use Rattle.std.proofs.Common.{◌%◌, arith, refl}
use Rattle.std.proofs.lemmas.Nat.{and_mask}
use Rattle.mos_cpu.specs.Sums.{sum_of}
use Rattle.mos_cpu.proofs.SumLemmas.{top_bits-overflow}
use Rattle.mos_cpu.proofs.sums.binary_adc.Goals as goal

pub returns-clause-result : goal.returns-clause-result
returns-clause-result c =
    let p = c.args.status.now in
    let sum = sum_of c.args.a c.args.m p in
    let value = and_mask sum 8 in
    let overflow = top_bits-overflow c.args.a c.args.m c.args.a c.args.m (p % 2) (sum % 256)
    (omega arith) (omega arith) (omega arith) (omega arith) (omega arith) refl in
    cc
