use Rattle.std.proofs.Common.{rules}
use Rattle.picture_file.proofs.BytesWritten.{appends_more}
use Rattle.picture_file.proofs.bytes.write_bytes.Goals as goal

pub loop-at-preserved : goal.loop-at-preserved
loop-at-preserved g c = record {
  within = search (rules);
  written = appends_more (g.W.Write.contents c.args.writer.now) (g.W.Write.contents c.loop-at.writer) (g.W.Write.contents c.write.new.self)
      c.loop-at.at c.in-Ok.n c.args.bytes.now c.split_at.result.1.now c.split_at.ensures.back c.loop-at.invariant.written c.in-Ok.ensures.bytes;
}
