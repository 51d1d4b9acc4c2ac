use Rattle.std.proofs.Common.{◌∙◌, ◌-◌, ℕ, List, length, drop, sym, ap, arith}
use Rattle.std.proofs.lemmas.List.{length-drop, take_all}
use Rattle.std.specs.Prelude.{bytes_eq}
use Rattle.std.proofs.lemmas.Option.{cond_some}
use Rattle.cart_board.specs.Board.{Row, row_of}
use Rattle.cart_board.specs.Record.{banks_in}
use Rattle.record_table.specs.Numbers.{bytes_of}
use Rattle.tia_chip.specs.Numbers.{tia_numbers}
use Rattle.chip_machine.specs.RecordNumbers.{cart_part, tia_part}
use Rattle.chip_machine.specs.States.{is_state}
use Rattle.chip_machine.proofs.ByteLemmas.{unchosen}
use Rattle.chip_machine.proofs.RecordLaws.{no_cpu, no_tia, same_fields, spelled_fields, unlawful, unspelled}
use Rattle.chip_machine.proofs.StateLemmas.{state_tia}
use Rattle.chip_machine.proofs.record.fields_in.Goals as goal
use Rattle.chip_machine.proofs.record.fields_in.Goals.{else-is_lawful-via-then-is_lawful+else-eq, else-is_lawful-via-else-is_lawful}

pub returns-in_err-cpu_in : goal.returns-in_err-cpu_in
returns-in_err-cpu_in c =
    let row = c.args.cart.now.row in
    let bytes = c.args.bytes.now in
    c.from_residual.ensures ∙ sym (unlawful row bytes (no_cpu row bytes (unchosen _ _ (sym c.cpu_in.ensures ∙ c.in_err-cpu_in.was))))

pub returns-in_err-tia_in : goal.returns-in_err-tia_in
returns-in_err-tia_in c =
    let row = c.args.cart.now.row in
    let bytes = c.args.bytes.now in
    c.from_residual-in_err-tia_in.ensures ∙ sym (unlawful row bytes (no_tia row bytes (unchosen _ _ (sym c.tia_in.ensures ∙ c.in_err-tia_in.was))))

pub tia_bytes-requires : goal.tia_bytes-requires
tia_bytes-requires c = state_tia _ (sym c.is_lawful.ensures ∙ c.if-is_lawful.true)

pub returns-then-eq : goal.returns-then-eq
returns-then-eq c =
    let row = c.args.cart.now.row in
    let bytes = c.args.bytes.now in
    let cpu = cond_some _ _ _ (sym c.cpu_in.ensures ∙ c.in_ok-cpu_in.was) in
    let tia = cond_some _ _ _ (sym c.tia_in.ensures ∙ c.in_ok-tia_in.was) in
    let whole = take_all (length bytes - 206) (drop 206 bytes) (omega (arith, length-drop 206 bytes)) in
    let banks =
    c.banks_in.ensures
    ∙ ap (banks_in (row_of c.board.result.now)) whole
    ∙ ap (λ (r : Row). banks_in r (cart_part bytes)) c.board.ensures.value in
    let same = same_fields _ _ _ _ _ _ _ _ (sym cpu.1) c.riot_in.ensures (sym tia.1) banks in
    let spelled = c.tia_bytes.ensures ∙ ap (bytes_of tia_numbers) (sym tia.1) in
    spelled_fields row bytes _ same (sym c.is_lawful.ensures ∙ c.if-is_lawful.true)
    (ap (λ (w : List ℕ). bytes_eq w (tia_part bytes)) (sym spelled) ∙ sym c.eq.ensures ∙ c.if-eq.true)

pub returns-else-is_lawful : goal.returns-else-is_lawful
returns-else-is_lawful c =
    let row = c.args.cart.now.row in
    let bytes = c.args.bytes.now in
    let cpu = cond_some _ _ _ (sym c.cpu_in.ensures ∙ c.in_ok-cpu_in.was) in
    let tia = cond_some _ _ _ (sym c.tia_in.ensures ∙ c.in_ok-tia_in.was) in
    let whole = take_all (length bytes - 206) (drop 206 bytes) (omega (arith, length-drop 206 bytes)) in
    let banks =
    c.banks_in.ensures
    ∙ ap (banks_in (row_of c.board.result.now)) whole
    ∙ ap (λ (r : Row). banks_in r (cart_part bytes)) c.board.ensures.value in
    let same = same_fields _ _ _ _ _ _ _ _ (sym cpu.1) c.riot_in.ensures (sym tia.1) banks in
    elim c.else-is_lawful.branch [
      | else-is_lawful-via-then-is_lawful+else-eq w ↦
          let spelled = w.tia_bytes.ensures ∙ ap (bytes_of tia_numbers) (sym tia.1) in
          sym (unspelled row bytes (ap (λ (w : List ℕ). bytes_eq w (tia_part bytes)) (sym spelled) ∙ sym w.eq.ensures ∙ w.if-eq.false))
      | else-is_lawful-via-else-is_lawful w ↦
          sym (unlawful row bytes (ap is_state (sym same) ∙ sym c.is_lawful.ensures ∙ w.if-is_lawful.false))
    ]
