use Rattle.movie_file.proofs.PrefixLemmas.{prefix_then}
use Rattle.movie_file.proofs.writing.put_checkpoints.Goals as goal

pub returns-in_err-put_checkpoint-clause-prefix : goal.returns-in_err-put_checkpoint-clause-prefix
returns-in_err-put_checkpoint-clause-prefix c =
    prefix_then c.args.out.now.items c.loop-checkpoint.out.items c.put_checkpoint.new.out.items _ c.loop-checkpoint.invariant
    c.in_err-put_checkpoint.ensures.prefix
