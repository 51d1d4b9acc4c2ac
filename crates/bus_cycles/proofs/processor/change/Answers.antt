use Rattle.std.proofs.Common.{◌≡◌, Ok, refl, true}
use Rattle.bus_cycles.specs.Private.Held.{held_bus}
use Rattle.bus_cycles.specs.declared.bus.Purpose.TheVariants.{Data}
use Rattle.bus_cycles.proofs.AnswerLemmas.{ok-tied, guide-tied, run-tied, plain-of, place-found}
use Rattle.bus_cycles.proofs.KindLemmas.{found-ok, run-change}
use Rattle.bus_cycles.proofs.RowLemmas.{change-row}
use Rattle.bus_cycles.specs.declared.kind.Kind.TheVariants as kind
use Rattle.bus_cycles.proofs.processor.change.Goals as goal

pub find-requires-clause-place : goal.find-requires-clause-place
find-requires-clause-place g c =
    place-found c.args.row.mode (change-row c.args.opcode c.args.row c.requires.known c.requires.kind c.requires.mode).place

pub execute-cycles-requires : goal.execute-cycles-requires
execute-cycles-requires g c =
    let m = g.B.CycleBus.meaning in
    let r = c.args.cpu.now in
    let s = g.B.CycleBus.state c.args.bus.now in
    ok-tied c.of-held.result (held_bus c.in_ok-found.found.held c.read-byte.result 0 0) r c.of-held.ensures
    (found-ok m c.args.row r s c.args.opcode c.requires.known (plain-of c.args.row.operation kind.Change c.requires.kind (λ e. cc))
    c.in_ok-found.found (g.B.CycleBus.state c.find.new.bus) true (rw c.registers-start.ensures at c.in_ok-found.ensures) c.read-byte.result 0 0
    (change-row c.args.opcode c.args.row c.requires.known c.requires.kind c.requires.mode).place)

pub returns : goal.returns
returns g c =
    let m = g.B.CycleBus.meaning in
    let r = c.args.cpu.now in
    let s = g.B.CycleBus.state c.args.bus.now in
    let bus = held_bus c.in_ok-found.found.held (m.read_value (g.B.CycleBus.state c.find.new.bus) c.in_ok-found.found.address) 0 0 in
    let held : c.of-held.result ≡ bus = rw (c.of-held.ensures, c.read-byte.ensures.value) refl in
    run-tied m c.args.row r s c.args.opcode (Ok c.execute-cycles.result) c.execute-cycles.new.cpu (g.B.CycleBus.state c.write-2.new.self)
    (m.after_write (m.after_write (m.after_read (g.B.CycleBus.state c.find.new.bus) Data c.in_ok-found.found.address) c.in_ok-found.found.address
    c.execute-cycles.new.bus.before) c.in_ok-found.found.address c.execute-cycles.new.bus.last)
    (rw (c.write-2.ensures, c.write.ensures, c.read-byte.ensures.bus) refl)
    (run-change m c.args.row r s c.args.opcode c.requires.known (plain-of c.args.row.operation kind.Change c.requires.kind (λ e. cc)) c.requires.kind
    c.requires.mode c.in_ok-found.found (g.B.CycleBus.state c.find.new.bus) (rw c.registers-start.ensures at c.in_ok-found.ensures)
    c.execute-cycles.result c.execute-cycles.new.cpu c.execute-cycles.new.bus
    (guide-tied r c.of-held.result bus c.execute-cycles.result c.execute-cycles.new.cpu c.execute-cycles.new.bus held c.execute-cycles.ensures))
