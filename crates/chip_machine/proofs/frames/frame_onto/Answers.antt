use Rattle.std.proofs.Common.{◌∙◌, sym, ap}
use Rattle.riot_chip.specs.Riot.{riot_of}
use Rattle.chip_machine.specs.Consoles.{Console}
use Rattle.chip_machine.specs.Frame.{Ended, Machine, stop_of}
use Rattle.chip_machine.specs.declared.fields.StateFields.{StateFields}
use Rattle.chip_machine.proofs.FrameOutcomes.{frame-lawful, left-same, started}
use Rattle.chip_machine.proofs.frames.frame_onto.Goals as goal

pub of_parts-requires : goal.of_parts-requires
of_parts-requires g c =
    let cart = c.args.cart.now in
    let state = c.args.state.now in
    let at : Console g.row.S.Denot → Machine g.row.S.Denot = λ (console : Console g.row.S.Denot). record { registers = c.run_until_stop-ran.new.cpu; console = console } in
    let end = at c.catch_up_tia.new.self in
    let told = ap (λ (console : Console g.row.S.Denot). Ended (at console)) (sym c.catch_up_tia.ensures) in
    let fields = c.take_cart-mapped.ensures.fields in
    let start = started cart state c.args.input c.args.sink c.of-cpu.result c.begin-console.result c.take_cart-mapped.result c.riot.result c.tia.result
    (c.of-cpu.ensures ∙ c.cpu.ensures.value) c.begin-console.ensures c.take_cart-mapped.ensures.cart
    (c.riot.ensures ∙ ap (λ (f : StateFields). riot_of f.riot) fields) (c.tia.ensures ∙ ap (λ (f : StateFields). f.tia) fields) in
    let ended = ap (stop_of g.S.Paint.drawn) (sym start) ∙ (c.in-Ok.ensures.ok ∙ told) in
    let left = frame-lawful g.S.Paint.drawn cart state c.args.input c.args.sink end c.cpu.ensures.lawful ended in
    rw c.finish-mapped.ensures.tia (record { tia = left.lawful; settled = left.settled; aligned = left.cycle })

pub returns-in-Ok-clause-ok : goal.returns-in-Ok-clause-ok
returns-in-Ok-clause-ok g c =
    let at : Console g.row.S.Denot → Machine g.row.S.Denot = λ (console : Console g.row.S.Denot). record { registers = c.run_until_stop-ran.new.cpu; console = console } in
    let end = at c.catch_up_tia.new.self in
    let told = ap (λ (console : Console g.row.S.Denot). Ended (at console)) (sym c.catch_up_tia.ensures) in
    let fields = c.take_cart-mapped.ensures.fields in
    let left = c.finish-mapped.result in
    let start = started c.args.cart.now c.args.state.now c.args.input c.args.sink c.of-cpu.result c.begin-console.result c.take_cart-mapped.result
    c.riot.result c.tia.result (c.of-cpu.ensures ∙ c.cpu.ensures.value) c.begin-console.ensures c.take_cart-mapped.ensures.cart
    (c.riot.ensures ∙ ap (λ (f : StateFields). riot_of f.riot) fields) (c.tia.ensures ∙ ap (λ (f : StateFields). f.tia) fields) in (
      end,
      ap (stop_of g.S.Paint.drawn) (sym start) ∙ (c.in-Ok.ensures.ok ∙ told),
      sym (c.of_parts.ensures.value
          ∙ left-same end c.registers.result left.riot left.tia left.cart
          c.registers.ensures c.finish-mapped.ensures.riot c.finish-mapped.ensures.tia c.finish-mapped.ensures.cart),
      sym c.finish-mapped.ensures.sink,
      sym c.cycles-cycles.ensures,
      sym c.rows-rows.ensures,
    )
