use Rattle.std.proofs.Common.{arith}
use Rattle.replay_segments.proofs.CheckpointLemmas.{all_before, next_is}
use Rattle.replay_segments.proofs.checkpoints.checkpoints_before.Goals as goal

pub returns-then-checkpoint-frame-clause-next : goal.returns-then-checkpoint-frame-clause-next
returns-then-checkpoint-frame-clause-next c =
    next_is c.args.movie.now c.checkpoints-count.ensures.lawful c.loop-next.next c.args.frame c.checkpoint.result.now c.checkpoint.ensures
    c.loop-next.invariant (omega (arith, c.if-checkpoint-frame.true))

pub returns-clause-next : goal.returns-clause-next
returns-clause-next c =
    all_before c.args.movie.now c.loop-next.next c.args.frame c.checkpoints-count.result c.checkpoints-count.ensures.value (omega arith) c.loop-next.invariant
