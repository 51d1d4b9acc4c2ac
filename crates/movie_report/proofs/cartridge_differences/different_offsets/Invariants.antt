use Rattle.std.proofs.Common.{◌≡◌, ◌<◌, All, length}
use Rattle.std.specs.List.{filter, range_with_len}
use Rattle.movie_report.specs.CartridgeDifferences.{is_different_at}
use Rattle.movie_report.proofs.cartridge_differences.different_offsets.Given as goal

abbrev pub invariant-loop-offset : goal.invariant-loop-offset
invariant-loop-offset l = record {
  value : l.offsets.items ≡ filter (is_different_at l.rom l.cart) (range_with_len 0 l.offset);
  within : All (λ offset. offset < length l.cart) l.offsets.items;
}
