use Rattle.std.proofs.Common.{◌≡◌, ◌∙◌, refl, ap}
use Rattle.mos_cpu.specs.Registers.{Registers}
use Rattle.bus_cycles.specs.Private.Held.{held_bus}
use Rattle.bus_cycles.proofs.AnswerLemmas.{ok-tied, guide-tied}
use Rattle.bus_cycles.proofs.QuietLemmas.{two_held, value-ok, value-run}
use Rattle.bus_cycles.proofs.processor.value.Goals as goal

pub execute-requires : goal.execute-requires
execute-requires g c =
    let m = g.B.CycleBus.meaning in
    let r = c.args.cpu.now in
    let s = g.B.CycleBus.state c.args.bus.now in
    let here = ap (λ (r : Registers). r.pc) (c.start.view_is ∙ c.registers-start.ensures) in
    ok-tied c.of.result (held_bus (two_held r c.args.opcode c.in_ok-held.field-0) 0 0 0) r
    (rw (c.of.ensures, c.of-held.ensures, here) refl)
    (value-ok m c.args.row r s c.args.opcode c.requires.known c.requires.kind c.requires.mode c.in_ok-held.field-0)

pub returns : goal.returns
returns g c =
    let m = g.B.CycleBus.meaning in
    let r = c.args.cpu.now in
    let s = g.B.CycleBus.state c.args.bus.now in
    let here = ap (λ (r : Registers). r.pc) (c.start.view_is ∙ c.registers-start.ensures) in
    let bus = held_bus (two_held r c.args.opcode c.in_ok-held.field-0) 0 0 0 in
    let held : c.of.result ≡ bus = rw (c.of.ensures, c.of-held.ensures, here) refl in
    value-run m c.args.row r s c.args.opcode c.requires.known c.requires.kind c.requires.mode c.in_ok-held.field-0
    (g.B.CycleBus.state c.fetch.new.bus)
    (rw here at c.in_ok-held.ensures) c.execute.result c.execute.new.cpu c.execute.new.bus
    (guide-tied r c.of.result bus c.execute.result c.execute.new.cpu c.execute.new.bus held c.execute.ensures)
