use Rattle.std.proofs.Common.{◌≡◌, ◌∙◌, ◌+◌, ◌%◌, Ok, refl, ap}
use Rattle.mos_cpu.specs.Registers.{Registers, after_pushes}
use Rattle.bus_cycles.specs.Private.Held.{held_bus}
use Rattle.bus_cycles.specs.declared.bus.Purpose.TheVariants.{Discarded}
use Rattle.bus_cycles.proofs.AnswerLemmas.{ok-tied, guide-tied, run-tied}
use Rattle.bus_cycles.proofs.QuietLemmas.{one_held, push-ok, push-run}
use Rattle.bus_cycles.proofs.processor.push.Goals as goal

pub execute-cycles-requires : goal.execute-cycles-requires
execute-cycles-requires g c =
    let m = g.B.CycleBus.meaning in
    let r = c.args.cpu.now in
    let s = g.B.CycleBus.state c.args.bus.now in
    ok-tied c.of-held.result (held_bus (one_held r c.args.opcode) 0 0 0) r
    (rw (c.of-held.ensures, c.find_none-held.ensures.held, c.registers-start.ensures) refl)
    (push-ok m c.args.row r s c.args.opcode c.requires.known c.requires.kind)

pub returns : goal.returns
returns g c =
    let m = g.B.CycleBus.meaning in
    let r = c.args.cpu.now in
    let s = g.B.CycleBus.state c.args.bus.now in
    let stack = ap (λ (r : Registers). r.s) (c.start.view_is ∙ c.registers-start.ensures) in
    let bus = held_bus (one_held r c.args.opcode) 0 0 0 in
    let held : c.of-held.result ≡ bus = rw (c.of-held.ensures, c.find_none-held.ensures.held, c.registers-start.ensures) refl in
    run-tied m c.args.row r s c.args.opcode (Ok c.execute-cycles.result) c.execute-cycles.new.cpu (g.B.CycleBus.state c.write.new.self)
    (m.after_write
    (m.after_read s Discarded ((r.pc + 1) % 65536))
    (256 + after_pushes r.s 0) c.execute-cycles.new.bus.last)
    (rw (c.write.ensures, c.pushed_at.ensures, c.find_none-held.ensures.bus, c.registers-start.ensures, stack) refl)
    (push-run m c.args.row r s c.args.opcode c.requires.known c.requires.kind c.execute-cycles.result c.execute-cycles.new.cpu
    c.execute-cycles.new.bus
    (guide-tied r c.of-held.result bus c.execute-cycles.result c.execute-cycles.new.cpu c.execute-cycles.new.bus held c.execute-cycles.ensures))
