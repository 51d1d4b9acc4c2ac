use Rattle.std.proofs.Common.{◌∙◌, ◌≤◌, ◌<◌, ◌+◌, arith, sym}
use Rattle.cart_board.specs.Board.{row_of}
use Rattle.movie_report.specs.declared.numbers.TheConstants.{OF_CHIP_RIOT, OF_CHIP_TIA}
use Rattle.movie_report.proofs.NumberLemmas.{chip-tia}
use Rattle.movie_report.proofs.numbers.chip_number.Goals as goal

pub returns-then-place : goal.returns-then-place
returns-then-place c =
    let high : OF_CHIP_RIOT ≤ c.args.place = omega arith in
    let low : c.args.place < OF_CHIP_RIOT + OF_CHIP_TIA = omega arith in
    c.of-then-place.ensures ∙ sym (chip-tia (row_of c.args.known.board.now) c.args.place high low)
