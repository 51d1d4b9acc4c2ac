use Rattle.std.proofs.Common.{Err, ap, inl}
use Rattle.std.specs.NonZero.{non_zero_u32_get}
use Rattle.picture_file.proofs.BytesWritten.{appends_kept, keeps_same, prefix_all}
use Rattle.commands.proofs.WrittenFrames.{the_error}
use Rattle.commands.proofs.WrittenPictures.{all_are_some}
use Rattle.commands.proofs.pictures.pictures.Goals as goal

pub returns-in_err-flush-clause-fault : goal.returns-in_err-flush-clause-fault
returns-in_err-flush-clause-fault g c = λ is.
    let told = c.in_ok-last.ensures.ok in
    let part = prefix_all _ _ _ (appends_kept _ _ (g.P.Write.contents c.flush.new.writer) _ told.4 c.flush.ensures.kept) in
    (told.0, told.1, inl (part, keeps_same (g.L.Write.contents c.args.text.now)))

pub returns-in_err-write_last-clause-memory : goal.returns-in_err-write_last-clause-memory
returns-in_err-write_last-clause-memory g c = λ is.
    let told = c.in_ok-last.ensures.ok in
    let error = the_error c.from_residual-in_err-write_last.result _ _ c.from_residual-in_err-write_last.ensures.1 is in (
      all_are_some c.args.movie.now (non_zero_u32_get c.args.first) c.args.count told.0 _ _ told.1
          (appends_kept _ _ (g.P.Write.contents c.flush.new.writer) _ told.4 c.flush.ensures.kept),
      c.in_err-write_last.ensures.memory (ap Err error),
    )
