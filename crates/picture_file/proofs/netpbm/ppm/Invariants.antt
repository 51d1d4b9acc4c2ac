use Rattle.std.proofs.Common.{take, length, ◌++◌}
use Rattle.std.specs.List.{flat_map}
use Rattle.std.specs.Io.KnownBytes.{Appends}
use Rattle.picture_file.specs.PictureBytes.{row_bytes, header_bytes}
use Rattle.picture_file.proofs.netpbm.ppm.Given as goal

abbrev pub invariant-loop-y : goal.invariant-loop-y
invariant-loop-y g l =
    Appends (g.W.Write.contents l.fn.writer) (g.W.Write.contents l.writer) (header_bytes (length l.picture) ++ flat_map row_bytes (take l.y l.picture))
