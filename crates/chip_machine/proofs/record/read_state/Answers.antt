use Rattle.std.proofs.Common.{◌≡◌, ◌∙◌, ◌+◌, length, Some, sym, ap, arith}
use Rattle.std.proofs.lemmas.Bool.{cond-true, false≢true}
use Rattle.cart_board.specs.Board.{Row}
use Rattle.cart_board.specs.Record.{record_length}
use Rattle.chip_machine.specs.RecordNumbers.{cart_place}
use Rattle.chip_machine.specs.States.{StateData, is_of, is_state}
use Rattle.chip_machine.proofs.RecordLaws.{found_fields, is_read, none_some, ram_there, read_found, same_some, state_found, state_only}
use Rattle.chip_machine.proofs.record.read_state.Goals as goal

pub returns-in_default-clause-only : goal.returns-in_default-clause-only
returns-in_default-clause-only c = λ s h is.
    let cart = c.args.cart.now in
    let read = is_read cart s c.args.bytes.now c.board-board.ensures.known h is in
    absurd (none_some c.fields_in.result s.fields c.in_default.is (c.fields_in.ensures ∙ found_fields cart s c.args.bytes.now h read))

pub returns-in_default-new-clause-only : goal.returns-in_default-new-clause-only
returns-in_default-new-clause-only c = λ s h is.
    let cart = c.args.cart.now in
    let read = is_read cart s c.args.bytes.now c.board-board.ensures.known h is in
    let same = same_some c.in-Some.fields s.fields (sym c.in-Some.is ∙ c.fields_in.ensures ∙ found_fields cart s c.args.bytes.now h read) in
    absurd (none_some c.new.result _ c.in_default-new.is (c.new.ensures ∙ cond-true (is_state c.in-Some.fields) _ _ (ap is_state same ∙ h.numbers)))

pub returns-then-not-is_of-clause-only : goal.returns-then-not-is_of-clause-only
returns-then-not-is_of-clause-only c = λ s h is.
    let cart = c.args.cart.now in
    let bytes = c.args.bytes.now in
    let ram = c.in_ok-ram.ensures.value ∙ ram_there bytes _ _ (ap (λ (r : Row). length r.banks) c.board-board.ensures.value) in
    let found = read_found cart.row bytes c.in-Some.fields _ c.new.result c.in-Some-new.state (sym c.fields_in.ensures ∙ c.in-Some.is) ram
    c.new.ensures c.in-Some-new.is in
    let same = state_only cart bytes c.in-Some-new.state s c.board-board.ensures.known found.2 h is in
    absurd (false≢true (sym (sym c.is_of.ensures ∙ c.if-not-is_of.true) ∙ ap (is_of cart) same ∙ h.cart))

pub returns-clause-found : goal.returns-clause-found
returns-clause-found c =
    let cart = c.args.cart.now in
    let bytes = c.args.bytes.now in
    let ram = c.in_ok-ram.ensures.value ∙ ram_there bytes _ _ (ap (λ (r : Row). length r.banks) c.board-board.ensures.value) in
    let found = read_found cart.row bytes c.in-Some.fields _ c.new.result c.in-Some-new.state (sym c.fields_in.ensures ∙ c.in-Some.is) ram
    c.new.ensures c.in-Some-new.is in
    let row = c.board-board.ensures.value in
    let len : length bytes ≡ cart_place + record_length cart.row =
    omega (arith, c.if-bytes-record_length.false, c.record_length.ensures, ap (λ (r : Row). length r.banks) row, ap (λ (r : Row). r.ram) row) in
    state_found cart bytes c.in-Some-new.state (λ i. omega (arith, c.type_inv.bytes i)) len c.board-board.ensures.known found.0 found.1 found.2
    (sym c.is_of.ensures ∙ c.if-not-is_of.false)

pub returns-clause-only : goal.returns-clause-only
returns-clause-only c = λ s h is.
    let cart = c.args.cart.now in
    let bytes = c.args.bytes.now in
    let ram = c.in_ok-ram.ensures.value ∙ ram_there bytes _ _ (ap (λ (r : Row). length r.banks) c.board-board.ensures.value) in
    let found = read_found cart.row bytes c.in-Some.fields _ c.new.result c.in-Some-new.state (sym c.fields_in.ensures ∙ c.in-Some.is) ram
    c.new.ensures c.in-Some-new.is in
    ap (λ (x : StateData). Some x) (state_only cart bytes c.in-Some-new.state s c.board-board.ensures.known found.2 h is)
