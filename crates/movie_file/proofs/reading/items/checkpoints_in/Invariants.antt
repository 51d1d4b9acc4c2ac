use Rattle.std.proofs.Common.{◌≡◌, ◌≤◌, ◌+◌, ◌*◌, ◌-◌, length, vec_len, vec_capacity}
use Rattle.movie_machine.specs.Carts.{board_of}
use Rattle.movie_file.specs.Format.{checkpoint_length}
use Rattle.movie_file.specs.Reading.{checkpoints_at}
use Rattle.movie_file.proofs.ItemLemmas.{with_prefix}
use Rattle.movie_file.proofs.reading.items.checkpoints_in.Given as goal

abbrev pub invariant-loop-i : goal.invariant-loop-i
invariant-loop-i l = record {
  so_far : with_prefix l.checkpoints.items
      (checkpoints_at l.sizes.version l.cart l.sizes.frames (l.sizes.checkpoints - l.i) (l.i + 1) l.last l.rest)
      ≡ checkpoints_at l.sizes.version l.cart l.sizes.frames l.sizes.checkpoints 1 0 l.bytes;
  read : vec_len l.checkpoints ≡ l.i;
  room : l.sizes.checkpoints ≤ vec_capacity l.checkpoints;
  long : length l.rest + checkpoint_length l.sizes.version (board_of l.cart) * l.i ≡ length l.bytes;
}
