use Rattle.std.proofs.Common.{◌≡◌, Ok, true}
use Rattle.bus_cycles.specs.Private.Held.{held_bus}
use Rattle.bus_cycles.proofs.AnswerLemmas.{ok-tied, guide-tied, run-tied, plain-of, place-found}
use Rattle.bus_cycles.proofs.KindLemmas.{found-ok, run-store}
use Rattle.bus_cycles.proofs.RowLemmas.{store-row}
use Rattle.bus_cycles.specs.declared.kind.Kind.TheVariants as kind
use Rattle.bus_cycles.proofs.RunLemmas.{stores-used}
use Rattle.bus_cycles.proofs.processor.store.Goals as goal

pub find-requires-clause-place : goal.find-requires-clause-place
find-requires-clause-place g c = place-found c.args.row.mode (store-row c.args.opcode c.args.row c.requires.known c.requires.kind).place

pub execute-cycles-requires : goal.execute-cycles-requires
execute-cycles-requires g c =
    let m = g.B.CycleBus.meaning in
    let r = c.args.cpu.now in
    let s = g.B.CycleBus.state c.args.bus.now in
    ok-tied c.of-held.result (held_bus c.in_ok-found.found.held 0 0 0) r c.of-held.ensures
    (found-ok m c.args.row r s c.args.opcode c.requires.known (plain-of c.args.row.operation kind.Store c.requires.kind (λ e. cc)) c.in_ok-found.found
    (g.B.CycleBus.state c.find.new.bus) true (rw c.registers-start.ensures at c.in_ok-found.ensures) 0 0 0
    (store-row c.args.opcode c.args.row c.requires.known c.requires.kind).place)

pub returns : goal.returns
returns g c =
    let m = g.B.CycleBus.meaning in
    let r = c.args.cpu.now in
    let s = g.B.CycleBus.state c.args.bus.now in
    let bus = held_bus c.in_ok-found.found.held 0 0 0 in
    let held : c.of-held.result ≡ bus = c.of-held.ensures in
    let what = stores-used c.args.row.operation c.requires.kind in
    run-tied m c.args.row r s c.args.opcode (Ok c.execute-cycles.result) c.execute-cycles.new.cpu (g.B.CycleBus.state c.write.new.self)
    (m.after_write (g.B.CycleBus.state c.find.new.bus) c.in_ok-found.found.address c.execute-cycles.new.bus.last)
    (c.write.ensures)
    (run-store m c.args.row r s c.args.opcode c.requires.known (plain-of c.args.row.operation kind.Store c.requires.kind (λ e. cc)) c.requires.kind
    what.0 what.1 c.in_ok-found.found (g.B.CycleBus.state c.find.new.bus) (rw c.registers-start.ensures at c.in_ok-found.ensures)
    c.execute-cycles.result c.execute-cycles.new.cpu c.execute-cycles.new.bus
    (guide-tied r c.of-held.result bus c.execute-cycles.result c.execute-cycles.new.cpu c.execute-cycles.new.bus held c.execute-cycles.ensures))
