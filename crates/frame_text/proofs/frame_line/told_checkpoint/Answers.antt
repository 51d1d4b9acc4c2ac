use Rattle.std.proofs.Common.{◌∙◌, sym}
use Rattle.frame_text.proofs.StandingCheckpoints.{stands_later}
use Rattle.frame_text.proofs.frame_line.told_checkpoint.Goals as goal

pub returns-then-checkpoint-frame : goal.returns-then-checkpoint-frame
returns-then-checkpoint-frame c =
    c.new-then-checkpoint-frame.ensures.bytes
    ∙ sym (stands_later c.args.movie.now c.checkpoints.ensures.lawful c.args.next c.args.frame c.checkpoint-checkpoint.result.now
    c.checkpoint-checkpoint.ensures c.args.notation c.args.state.now c.requires.next c.if-checkpoint-frame.true)
