use Rattle.std.proofs.lemmas.Result.{err_from_is_err_and}
use Rattle.std.proofs.Common.{List, ℕ, subst, rules}
use Rattle.picture_file.specs.Prefixes.{AppendsPrefix}
use Rattle.picture_file.specs.PictureBytes.{picture_bytes}
use Rattle.picture_file.proofs.BytesWritten.{prefix_in}
use Rattle.picture_file.proofs.netpbm.write_pictures.Goals as goal

pub returns-in_err-ppm-clause-err : goal.returns-in_err-ppm-clause-err
returns-in_err-ppm-clause-err g c =
    let p = err_from_is_err_and c.from_residual.result c.from_residual.ensures.1 in
    let a = g.W.Write.contents c.args.writer.now in
    let b = g.W.Write.contents c.loop-i.writer in
    let d = g.W.Write.contents c.ppm.new.writer in
    rw p.1 (prefix_in picture_bytes c.args.pictures.now c.loop-i.i c.at.result.now a b d (search rules) c.loop-i.invariant
    (subst (λ (r : List (List ℕ)). AppendsPrefix b d (picture_bytes r)) c.at.ensures c.in_err-ppm.ensures.err))
