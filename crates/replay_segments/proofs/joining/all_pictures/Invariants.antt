use Rattle.std.proofs.Common.{◌≡◌, ◌≤◌, ◌<◌, ◌+◌, ℕ, vec_len, vec_capacity}
use Rattle.replay_segments.specs.Gathering.{NamesAll, HasPassed, picture_count}
use Rattle.replay_segments.specs.Pieces.{Job, segments_of}
use Rattle.replay_segments.proofs.OneUnbrokenRun.{IsPrefix}
use Rattle.replay_segments.proofs.joining.all_pictures.Given as goal

abbrev pub invariant-loop-number : goal.invariant-loop-number
invariant-loop-number l = record {
  names : (job : Job) → NamesAll job l.fn.pieces.items → NamesAll job l.pieces.items;
  left : (k : ℕ) → l.number ≤ k → k < l.n → HasPassed l.pieces.items k;
  prefix : (job : Job) → NamesAll job l.fn.pieces.items → l.n ≡ segments_of job → IsPrefix job l.number l.all.items;
  room : vec_len l.all + picture_count l.pieces.items ≤ vec_capacity l.all;
}
