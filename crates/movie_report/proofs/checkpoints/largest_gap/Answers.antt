use Rattle.std.proofs.Common.{length, arith}
use Rattle.movie_report.proofs.CheckpointLemmas.{next_checkpoint}
use Rattle.movie_report.proofs.ListLemmas.{drop_at}
use Rattle.movie_report.proofs.checkpoints.largest_gap.Goals as goal

pub overflow_sub-frame : goal.overflow_sub-frame
overflow_sub-frame c =
    let m = c.args.movie.now in
    omega (arith, (next_checkpoint m.cartridge _ (length m.inputs) m.checkpoints _ _ c.loop-index.invariant.left c.checkpoint.ensures).0)

pub loop-index-preserved : goal.loop-index-preserved
loop-index-preserved c =
    let m = c.args.movie.now in
    record {
      gaps = rw c.max-gap.ensures (rw (drop_at _ _ _ c.checkpoint.ensures) at c.loop-index.invariant.gaps);
      left = (next_checkpoint m.cartridge _ (length m.inputs) m.checkpoints _ _ c.loop-index.invariant.left c.checkpoint.ensures).1;
    }
