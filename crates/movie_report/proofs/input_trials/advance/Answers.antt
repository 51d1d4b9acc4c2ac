use Rattle.movie_report.proofs.InputTrialLemmas.{no_fault}
use Rattle.movie_report.proofs.input_trials.advance.Goals as goal

pub unreachable-requires : goal.unreachable-requires
unreachable-requires c =
    no_fault c.args.cursor.now.movie c.args.cursor.now.frame c.args.last _ c.requires.more c.requires.ends
    (rw c.in-Err-Of.field-0-is at c.in-Err-Of.ensures.err)
