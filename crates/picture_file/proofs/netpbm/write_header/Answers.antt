use Rattle.std.proofs.lemmas.Result.{err_from_is_err_and}
use Rattle.std.proofs.Common.{List, ℕ, [], ◌∷◌, ◌++◌}
use Rattle.std.specs.Prelude.{codes}
use Rattle.std.specs.Fmt.{decimal}
use Rattle.picture_file.proofs.BytesWritten.{prefix_longer, prefix_after}
use Rattle.picture_file.proofs.netpbm.write_header.Goals as goal

abbrev first : List ℕ
first = codes "P6" ++ 10 ∷ codes "160 "

abbrev last : List ℕ
last = 10 ∷ codes "255" ++ 10 ∷ []

pub returns-in_err-write_bytes-clause-err : goal.returns-in_err-write_bytes-clause-err
returns-in_err-write_bytes-clause-err g c =
    let p = err_from_is_err_and c.from_residual.result c.from_residual.ensures.1 in
    let a = g.W.Write.contents c.args.writer.now in
    rw p.1 (prefix_longer a (g.W.Write.contents c.write_bytes.new.writer) first (decimal c.args.rows ++ last) c.in_err-write_bytes.ensures.err)

pub returns-in_err-write_number-clause-err : goal.returns-in_err-write_number-clause-err
returns-in_err-write_number-clause-err g c =
    let p = err_from_is_err_and c.from_residual-in_err-write_number.result c.from_residual-in_err-write_number.ensures.1 in
    let a = g.W.Write.contents c.args.writer.now in
    let b = g.W.Write.contents c.write_bytes.new.writer in
    let d = g.W.Write.contents c.write_number.new.writer in
    rw p.1
    (prefix_after a b d first (decimal c.args.rows ++ last) c.in_ok-write_bytes.ensures.ok
    (prefix_longer b d (decimal c.args.rows) last c.in_err-write_number.ensures.err))

pub returns-in_err-write_bytes-2-clause-err : goal.returns-in_err-write_bytes-2-clause-err
returns-in_err-write_bytes-2-clause-err g c =
    let p = err_from_is_err_and c.from_residual-in_err-write_bytes-2.result c.from_residual-in_err-write_bytes-2.ensures.1 in
    let a = g.W.Write.contents c.args.writer.now in
    let b = g.W.Write.contents c.write_bytes.new.writer in
    let d = g.W.Write.contents c.write_number.new.writer in
    let e = g.W.Write.contents c.write_bytes-2.new.writer in
    rw p.1
    (prefix_after a b e first (decimal c.args.rows ++ last) c.in_ok-write_bytes.ensures.ok
    (prefix_after b d e (decimal c.args.rows) last c.in_ok-write_number.ensures.ok
    c.in_err-write_bytes-2.ensures.err))
