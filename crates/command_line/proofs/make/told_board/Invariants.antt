use Rattle.std.proofs.Common.{◌≡◌, take, string_bytes}
use Rattle.std.specs.List.{flat_map}
use Rattle.command_line.proofs.BoardTexts.{told}
use Rattle.command_line.proofs.make.told_board.Given as goal

abbrev pub invariant-loop-board : goal.invariant-loop-board
invariant-loop-board l = string_bytes l.names ≡ flat_map told (take l.board-index l.board-items)
