use Rattle.std.proofs.Common.{◌≡◌, arith, rules}
use Rattle.chip_machine.specs.RecordNumbers.{recorded_state}
use Rattle.chip_machine.proofs.RecordLaws.{found_is_recorded}
use Rattle.movie_file.proofs.record.movie_state_in.Goals as goal

pub returns-in_ok-state-in-Chip-clause-value : goal.returns-in_ok-state-in-Chip-clause-value
returns-in_ok-state-in-Chip-clause-value c =
    let w = c.in-Chip in
    let found = c.in_ok-state-in-Chip in
    let exact : found.state ≡ recorded_state w.cart c.args.bytes.now =
    found_is_recorded w.cart c.args.bytes.now found.state (λ i. omega (arith, c.type_inv.bytes i)) c.board.ensures.known found.ensures.found found.ensures.only in
    rw (w.is, ← exact) (search rules)
