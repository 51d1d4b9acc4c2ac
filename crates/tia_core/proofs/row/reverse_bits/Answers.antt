use Rattle.std.proofs.Common.{◌-◌, slice_index_or, refl}
use Rattle.tia_core.specs.declared.row.TheConstants.{REVERSED_BYTES}
use Rattle.tia_core.proofs.Tables.{table_bits}
use Rattle.tia_core.proofs.row.reverse_bits.Goals as goal

pub returns : goal.returns
returns c = λ k h. table_bits (λ n. slice_index_or REVERSED_BYTES.now n 0) 256 8 (λ i. 7 - i) refl c.args.byte k c.ranges.byte.fits h
