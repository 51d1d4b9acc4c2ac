use Rattle.std.proofs.Common.{◌≡◌, ◌+◌, ◌-◌, arith}
use Rattle.replay_segments.proofs.CheckpointLemmas.{IsClaim-later, IsClaim-true}
use Rattle.replay_segments.proofs.judge.compare.Goals as goal

pub returns-then-checkpoint-frame : goal.returns-then-checkpoint-frame
returns-then-checkpoint-frame c =
    let same : c.args.next + 1 - 1 ≡ c.args.next = omega arith in
    IsClaim-later c.args.movie.now c.checkpoints.ensures.lawful c.args.next c.args.frame c.args.state.now c.requires c.checkpoint-checkpoint.result.now
    (rw same at c.checkpoint-checkpoint.ensures) c.if-checkpoint-frame.true

pub returns-then-equals : goal.returns-then-equals
returns-then-equals c =
    let same : c.args.next + 1 - 1 ≡ c.args.next = omega arith in
    IsClaim-true c.args.movie.now c.checkpoints.ensures.lawful c.args.next c.args.frame c.args.state.now c.requires c.checkpoint-checkpoint.result.now
    (rw same at c.checkpoint-checkpoint.ensures) c.if-checkpoint-frame.false (c.equals.ensures.0 c.if-equals.true)
