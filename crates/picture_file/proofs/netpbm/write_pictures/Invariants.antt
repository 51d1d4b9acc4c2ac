use Rattle.std.proofs.Common.{take}
use Rattle.std.specs.Io.KnownBytes.{Appends}
use Rattle.picture_file.specs.PictureBytes.{pictures_bytes}
use Rattle.picture_file.proofs.netpbm.write_pictures.Given as goal

abbrev pub invariant-loop-i : goal.invariant-loop-i
invariant-loop-i g l = Appends (g.W.Write.contents l.fn.writer) (g.W.Write.contents l.writer) (pictures_bytes (take l.i l.pictures))
