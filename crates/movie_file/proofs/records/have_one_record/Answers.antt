use Rattle.std.proofs.Common.{rules}
use Rattle.movie_machine.specs.declared.cart.Cart.TheVariants.{Chip as ChipCart}
use Rattle.movie_machine.specs.declared.state.State.TheVariants.{Chip}
use Rattle.movie_file.specs.Movie.{CanBeClaimed}
use Rattle.movie_file.proofs.OneRecord.{one_record}
use Rattle.movie_file.proofs.StateLemmas.{by_chip}
use Rattle.movie_file.proofs.records.have_one_record.Goals as goal

pub returns-in-Chip-Chip-Chip : goal.returns-in-Chip-Chip-Chip
returns-in-Chip-Chip-Chip c =
    let w = c.in-Chip-Chip-Chip in
    let first : CanBeClaimed (Chip w.first) = search (rules, by_chip) in
    let second : CanBeClaimed (Chip w.second) = search (rules, by_chip) in
    rw (w.is-0, w.is-1, w.is-2)
    (one_record w.cart w.first w.second c.board.ensures.known
    (first (ChipCart w.cart) (rw (w.is-0, w.is-1) at c.requires.first))
    (second (ChipCart w.cart) (rw (w.is-0, w.is-2) at c.requires.second))
    c.equals.result c.equals.ensures)
