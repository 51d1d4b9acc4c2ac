use Rattle.std.proofs.Common.{◌-◌, slice_index_or, refl}
use Rattle.tia_core.specs.declared.row.TheConstants.{REVERSED}
use Rattle.tia_core.proofs.Tables.{table_bits, table_below}
use Rattle.tia_core.proofs.row.reversed_half.Goals as goal

pub returns : goal.returns
returns c = record {
  bits = λ k h. table_bits (λ n. slice_index_or REVERSED.now n 0) 16 4 (λ i. 3 - i) refl c.args.half k c.requires h;
  range = table_below (λ n. slice_index_or REVERSED.now n 0) 16 16 refl c.args.half c.requires;
}
