use Rattle.std.proofs.Common.{◌≡◌, ◌∙◌, ap, inr}
use Rattle.cart_board.specs.Known.{known_row}
use Rattle.movie_machine.specs.Carts.{board_of}
use Rattle.commands.proofs.report.report.Goals as goal

pub returns-in_ok-rom_refusal-in-Some-clause-answer : goal.returns-in_ok-rom_refusal-in-Some-clause-answer
returns-in_ok-rom_refusal-in-Some-clause-answer g c =
    let board : known_row c.board-board.result ≡ board_of c.args.movie.now.cartridge = c.board-board.ensures.value ∙ ap board_of c.cart.ensures in
    inr (c.in-Some.other.now, rw board at c.in-Some.ensures.some, rw board at c.in_ok-rom_refusal-in-Some.ensures)
