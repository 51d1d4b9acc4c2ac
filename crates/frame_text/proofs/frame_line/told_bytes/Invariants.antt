use Rattle.std.proofs.Common.{◌≡◌, take, string_bytes}
use Rattle.std.specs.List.{flat_map}
use Rattle.frame_text.specs.FrameLines.{byte_text}
use Rattle.frame_text.proofs.frame_line.told_bytes.Given as goal

abbrev pub invariant-loop-watched : goal.invariant-loop-watched
invariant-loop-watched l = string_bytes l.text ≡ flat_map (byte_text l.notation l.state) (take l.watched-index l.addresses)
