use Rattle.std.proofs.Common.{◌≡◌, ◌+◌, ◌%◌, Ok, refl}
use Rattle.bus_cycles.specs.Private.Held.{held_bus}
use Rattle.bus_cycles.specs.declared.bus.Purpose.TheVariants.{Discarded}
use Rattle.bus_cycles.proofs.AnswerLemmas.{ok-tied, guide-tied, run-tied}
use Rattle.bus_cycles.proofs.QuietLemmas.{one_held, change_a-ok, change_a-run}
use Rattle.bus_cycles.proofs.processor.change_a.Goals as goal

pub execute-requires : goal.execute-requires
execute-requires g c =
    let m = g.B.CycleBus.meaning in
    let r = c.args.cpu.now in
    let s = g.B.CycleBus.state c.args.bus.now in
    ok-tied c.of.result (held_bus (one_held r c.args.opcode) 0 0 0) r
    (rw (c.of.ensures, c.find_none-held.ensures.held, c.registers-start.ensures) refl)
    (change_a-ok m c.args.row r s c.args.opcode c.requires.known c.requires.kind c.requires.mode 0)

pub returns : goal.returns
returns g c =
    let m = g.B.CycleBus.meaning in
    let r = c.args.cpu.now in
    let s = g.B.CycleBus.state c.args.bus.now in
    let bus = held_bus (one_held r c.args.opcode) 0 0 0 in
    let held : c.of.result ≡ bus = rw (c.of.ensures, c.find_none-held.ensures.held, c.registers-start.ensures) refl in
    run-tied m c.args.row r s c.args.opcode (Ok c.execute.result) c.execute.new.cpu (g.B.CycleBus.state c.find_none-held.new.bus)
    (m.after_read s Discarded ((r.pc + 1) % 65536))
    (rw (c.find_none-held.ensures.bus, c.registers-start.ensures) refl)
    (change_a-run m c.args.row r s c.args.opcode c.requires.known c.requires.kind c.requires.mode 0 c.execute.result c.execute.new.cpu c.execute.new.bus
    (guide-tied r c.of.result bus c.execute.result c.execute.new.cpu c.execute.new.bus held c.execute.ensures))
