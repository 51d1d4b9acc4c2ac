-- Boards that a command names.
use Rattle.std.specs.Prelude.{Option, option_and_then, slice_get}
use Rattle.cart_board.specs.Board.{Row}
use Rattle.cart_board.specs.Boards.{boards}
use Rattle.command_line.specs.declared.named_board.NamedBoard.{NamedBoard}

-- The row of such a board, if there is one.
abbrev pub named_row : Option NamedBoard → Option Row
named_row board = option_and_then (λ named. slice_get boards named.code) board
