use Rattle.std.proofs.Common.{◌+◌, ◌*◌, ◌/◌, ◌%◌, ℕ, slice_index_or, refl}
use Rattle.tia_core.specs.declared.row.TheConstants.{DOUBLED}
use Rattle.tia_core.proofs.Tables.{table_bits}
use Rattle.tia_core.proofs.row.double_bits.Goals as goal

pub returns : goal.returns
returns c = λ k h.
    let doubled = λ (n : ℕ). slice_index_or DOUBLED.now (n / 16) 0 * 256 + slice_index_or DOUBLED.now (n % 16) 0 in
    rw (c.from.ensures, c.from-2.ensures) (table_bits doubled 256 16 (λ i. i / 2) refl c.args.byte k c.ranges.byte.fits h)
