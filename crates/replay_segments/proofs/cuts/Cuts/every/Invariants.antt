use Rattle.std.proofs.Common.{◌≡◌, ◌≤◌, ◌+◌, ◌*◌, ℕ, Some, slice_get, vec_len, vec_capacity}
use Rattle.replay_segments.proofs.cuts.Cuts.every.Given as goal

abbrev pub invariant-loop-i : goal.invariant-loop-i
invariant-loop-i l = record {
  len : vec_len l.numbers ≡ l.i;
  room : l.count ≤ vec_capacity l.numbers;
  each : (j n : ℕ) → slice_get l.numbers.items j ≡ Some n → n ≡ (j + 1) * l.k;
}
