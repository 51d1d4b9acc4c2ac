-- Boards of the table.
use Rattle.std.specs.Prelude.{Option}
use Rattle.std.specs.Option.{option_map}
use Rattle.cart_board.specs.Board.{Row, row_of}
use Rattle.cart_board.specs.declared.known_board.KnownBoard.{KnownBoard}

-- The row of such a board, if there is one.
abbrev pub known_row : Option KnownBoard → Option Row
known_row board = option_map (λ known. row_of known.board.now) board
