use Rattle.std.proofs.lemmas.Result.{err_from_is_err_and}
use Rattle.movie_file.proofs.StateLemmas.{ram_is}
use Rattle.run_cursor.proofs.cursor.Cursor.at_claim.Goals as goal

pub returns-in_err-state-clause-memory : goal.returns-in_err-state-clause-memory
returns-in_err-state-clause-memory c =
    let p = err_from_is_err_and c.from_residual.result c.from_residual.ensures.1 in
    rw (p.1, ← ram_is _ _ c.requires.cartridge) c.in_err-state.ensures.memory
