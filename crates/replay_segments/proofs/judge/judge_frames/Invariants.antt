use Rattle.std.proofs.Common.{◌≡◌, ◌+◌, ◌≤◌, IsTrue, vec_len, vec_capacity}
use Rattle.movie_machine.specs.States.{is_of}
use Rattle.replay_plan.specs.Keeping.{kept_count}
use Rattle.replay_segments.specs.NextCheckpoint.{IsNext}
use Rattle.replay_segments.specs.Private.Steps.{SoFar}
use Rattle.replay_segments.proofs.judge.judge_frames.Given as goal

abbrev pub invariant-loop-k : goal.invariant-loop-k
invariant-loop-k g l = record {
  far : SoFar l.movie l.keep l.start l.from l.k l.state l.pictures.items;
  count : vec_len l.pictures ≡ kept_count l.keep l.from l.k;
  room : kept_count l.keep l.from l.len ≤ vec_capacity l.pictures;
  cartridge : IsTrue (is_of l.movie.cartridge l.state);
  next : IsNext l.movie l.next (l.from + l.k + 1);
}
