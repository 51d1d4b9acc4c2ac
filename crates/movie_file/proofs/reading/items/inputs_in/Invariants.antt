use Rattle.std.proofs.Common.{◌≡◌, ◌≤◌, ◌+◌, ◌*◌, ◌-◌, length, vec_len, vec_capacity}
use Rattle.movie_file.specs.Format.{input_length}
use Rattle.movie_file.specs.Reading.{inputs_at}
use Rattle.movie_file.proofs.ItemLemmas.{with_prefix}
use Rattle.movie_file.proofs.reading.items.inputs_in.Given as goal

abbrev pub invariant-loop-i : goal.invariant-loop-i
invariant-loop-i l = record {
  so_far : with_prefix l.inputs.items (inputs_at (l.count - l.i) (l.i + 1) l.rest) ≡ inputs_at l.count 1 l.bytes;
  read : vec_len l.inputs ≡ l.i;
  room : l.count ≤ vec_capacity l.inputs;
  long : length l.rest + input_length * l.i ≡ length l.bytes;
}
