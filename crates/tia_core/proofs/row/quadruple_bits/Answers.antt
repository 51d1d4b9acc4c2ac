use Rattle.std.proofs.Common.{◌/◌, slice_index_or, refl}
use Rattle.tia_core.specs.declared.row.TheConstants.{QUADRUPLED}
use Rattle.tia_core.proofs.Tables.{table_bits}
use Rattle.tia_core.proofs.row.quadruple_bits.Goals as goal

pub returns : goal.returns
returns c = λ k h. table_bits (λ n. slice_index_or QUADRUPLED.now n 0) 256 32 (λ i. i / 4) refl c.args.byte k c.ranges.byte.fits h
