use Rattle.std.proofs.lemmas.Result.{err_from_is_err_and}
use Rattle.movie_file.proofs.StateLemmas.{ram_is}
use Rattle.movie_report.proofs.input_trials.after_next.Goals as goal

pub returns-in_err-next-clause-memory : goal.returns-in_err-next-clause-memory
returns-in_err-next-clause-memory c =
    let p = err_from_is_err_and c.from_residual.result c.from_residual.ensures.1 in
    rw (p.1, ← ram_is _ _ c.requires) c.in_err-next.ensures.memory
