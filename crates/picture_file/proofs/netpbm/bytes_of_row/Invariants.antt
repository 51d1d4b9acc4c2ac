use Rattle.std.proofs.Common.{◌≡◌, ◌*◌, take}
use Rattle.arrayvec.specs.ArrayVec.{array_vec_len}
use Rattle.picture_file.specs.Palette.{rgb_of}
use Rattle.picture_file.specs.PictureBytes.{row_bytes}
use Rattle.picture_file.proofs.netpbm.bytes_of_row.Given as goal

-- three bytes for each pixel so far
abbrev pub invariant-loop-colour : goal.invariant-loop-colour
invariant-loop-colour l = record {
  items : l.bytes.items ≡ row_bytes (take l.colour-index l.row);
  room : array_vec_len l.bytes ≡ 3 * l.colour-index;
  last : l.parts ≡ rgb_of l.last;
}
