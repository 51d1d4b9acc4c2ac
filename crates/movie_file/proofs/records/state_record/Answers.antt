use Rattle.std.proofs.Common.{◌≡◌, rules}
use Rattle.chip_machine.specs.Record.{record_of as record_by_chip}
use Rattle.chip_machine.proofs.RecordLaws.{length-record_on}
use Rattle.movie_machine.specs.declared.cart.Cart.TheVariants.{Chip as ChipCart}
use Rattle.movie_machine.specs.declared.state.State.TheVariants.{Chip}
use Rattle.movie_file.specs.Movie.{CanBeClaimed}
use Rattle.movie_file.specs.Record.{record_of}
use Rattle.movie_file.proofs.RecordLaws.{length-record_of}
use Rattle.movie_file.proofs.StateLemmas.{by_chip}
use Rattle.movie_file.proofs.records.state_record.Goals as goal
use Rattle.movie_file.proofs.records.state_record.Goals.{in-Guide-Guide+in_ok-extend_from_slice-in-Guide-Guide, in-Guide+in-Chip-1, in-Chip-Chip+in_ok-write_state-in-Chip-Chip, in-Chip+in-Guide-1}

pub returns-clause-whole : goal.returns-clause-whole
returns-clause-whole c =
    elim c.match-cart.branch [
      | in-Guide-Guide+in_ok-extend_from_slice-in-Guide-Guide w ↦
          let p = w.in-Guide-Guide in
          let is : c.match-cart.record.items ≡ record_of p.state = search rules in
          rw (p.is-0, p.is-1, is) (λ of. length-record_of p.state w.write_state.ensures.lawful)
      | in-Guide+in-Chip-1 w ↦ search rules
      | in-Chip-Chip+in_ok-write_state-in-Chip-Chip w ↦
          let p = w.in-Chip-Chip in
          let is : c.match-cart.record.items ≡ record_by_chip p.cart.row p.state = search rules in
          let can : CanBeClaimed (Chip p.state) = search (rules, by_chip) in
          rw (p.is-0, p.is-1, is) (λ of. length-record_on p.cart p.state w.board.ensures.known (can (ChipCart p.cart) of))
      | in-Chip+in-Guide-1 w ↦ search rules
    ]
