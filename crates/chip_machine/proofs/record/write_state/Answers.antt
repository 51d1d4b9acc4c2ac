use Rattle.std.proofs.Common.{ℕ, List, ◌++◌, length, take, ◌∙◌, ap}
use Rattle.record_table.specs.Numbers.{bytes_of}
use Rattle.cart_board.specs.Board.{Row}
use Rattle.mos_cpu.specs.Registers.{processor_numbers}
use Rattle.tia_chip.specs.Numbers.{tia_numbers}
use Rattle.chip_machine.specs.Record.{record_of, riot_bytes}
use Rattle.chip_machine.specs.declared.fields.StateFields.{StateFields}
use Rattle.chip_machine.proofs.RecordLaws.{appended, same_five}
use Rattle.chip_machine.proofs.StateLemmas.{state_tia}
use Rattle.chip_machine.proofs.record.write_state.Goals as goal

pub tia_bytes-requires : goal.tia_bytes-requires
tia_bytes-requires c = state_tia _ c.fields-fields.ensures.lawful

pub returns-clause-ok : goal.returns-clause-ok
returns-clause-ok c =
    let f = c.fields-fields.ensures.value in
    let banks =
    c.bank_bytes-banks.ensures
    ∙ ap (λ (r : Row). take (length r.banks) c.fields-fields.result.banks) c.board.ensures.value
    ∙ ap (λ (f : StateFields). take (length c.args.cart.now.row.banks) f.banks) f in
    appended _ _ _ _ _ _ _ _ _ _ _ c.in_ok-extend_from_slice.ensures.items c.in_ok-extend_from_slice-2.ensures.items
    c.in_ok-extend_from_slice-3.ensures.items c.in_ok-extend_from_slice-4.ensures.items c.in_ok-extend_from_slice-5.ensures.items
    ∙ same_five _ _ _ _ _ _ _ _ _ _ _
    (c.cpu_bytes.ensures ∙ ap (λ (f : StateFields). bytes_of processor_numbers f.cpu) f)
    (c.riot_bytes.ensures ∙ ap (λ (f : StateFields). riot_bytes f.riot) f)
    (c.tia_bytes.ensures ∙ ap (λ (f : StateFields). bytes_of tia_numbers f.tia) f)
    banks
    c.ram-ram.ensures
    ∙ ap (λ (out : List ℕ). out ++ record_of c.args.cart.now.row c.args.state.now) c.reserve.ensures.items
