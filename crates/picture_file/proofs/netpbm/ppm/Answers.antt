use Rattle.std.proofs.lemmas.Result.{err_from_is_err_and}
use Rattle.std.proofs.Common.{List, [], ℕ, length, subst, rules}
use Rattle.std.specs.List.{flat_map}
use Rattle.std.specs.Io.KnownBytes.{Appends}
use Rattle.picture_file.specs.Prefixes.{AppendsPrefix}
use Rattle.picture_file.specs.PictureBytes.{header_bytes, row_bytes}
use Rattle.picture_file.proofs.BytesWritten.{prefix_longer, prefix_behind, appends_behind}
use Rattle.picture_file.proofs.netpbm.ppm.Goals as goal

pub returns-in_err-write_header-clause-err : goal.returns-in_err-write_header-clause-err
returns-in_err-write_header-clause-err g c =
    let p = err_from_is_err_and c.from_residual.result c.from_residual.ensures.1 in
    let a = g.W.Write.contents c.args.writer.now in
    let b = g.W.Write.contents c.write_header.new.writer in
    rw p.1 (prefix_longer a b (header_bytes (length c.args.picture.now)) (flat_map row_bytes c.args.picture.now)
    (subst (λ (n : ℕ). AppendsPrefix a b (header_bytes n)) c.rows.ensures.value c.in_err-write_header.ensures.err))

pub returns-in_err-write_row-clause-err : goal.returns-in_err-write_row-clause-err
returns-in_err-write_row-clause-err g c =
    let p = err_from_is_err_and c.from_residual-in_err-write_row.result c.from_residual-in_err-write_row.ensures.1 in
    let a = g.W.Write.contents c.args.writer.now in
    let b = g.W.Write.contents c.loop-y.writer in
    let d = g.W.Write.contents c.write_row.new.writer in
    rw p.1 (prefix_behind row_bytes (header_bytes (length c.args.picture.now)) c.args.picture.now c.loop-y.y [] a b d (search rules) c.loop-y.invariant
    (subst (λ (r : List ℕ). AppendsPrefix b d (row_bytes r)) c.row.ensures c.in_err-write_row.ensures.err))

pub loop-y-preserved : goal.loop-y-preserved
loop-y-preserved g c =
    let a = g.W.Write.contents c.args.writer.now in
    let b = g.W.Write.contents c.loop-y.writer in
    let d = g.W.Write.contents c.write_row.new.writer in
    appends_behind row_bytes (header_bytes (length c.args.picture.now)) c.args.picture.now c.loop-y.y [] a b d (search rules) c.loop-y.invariant
    (subst (λ (r : List ℕ). Appends b d (row_bytes r)) c.row.ensures c.in_ok-write_row.ensures.ok)
