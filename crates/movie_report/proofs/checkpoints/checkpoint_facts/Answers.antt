use Rattle.std.proofs.Common.{◌≡◌, ◌-◌, arith, length, Some, slice_get}
use Rattle.replay_segments.proofs.SegmentLemmas.{checkpoint_within}
use Rattle.movie_report.proofs.checkpoints.checkpoint_facts.Goals as goal

pub overflow_sub-frames : goal.overflow_sub-frames
overflow_sub-frames c =
    let within = checkpoint_within c.args.movie.now _ c.checkpoint-2.result.now c.frames-frames.ensures.lawful c.checkpoint-2.ensures in
    omega (arith, within, c.frames-frames.ensures.value)

pub returns : goal.returns
returns c =
    let last : slice_get c.args.movie.now.checkpoints (length c.args.movie.now.checkpoints - 1) ≡ Some c.checkpoint-2.result.now =
    rw c.checkpoints-count.ensures.value at c.checkpoint-2.ensures in
    let count : c.from.result ≡ length c.args.movie.now.checkpoints = cc in
    rw (c.checkpoint.ensures, last, ← count, ← c.frames-frames.ensures.value, ← c.largest_gap-gap.ensures, ← c.in_ok-rest-2.ensures)
    c.format-2.ensures.ok
