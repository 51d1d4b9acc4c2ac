use Rattle.std.proofs.Common.{◌≡◌, ◌∙◌, Ok, refl, ap}
use Rattle.mos_cpu.specs.Registers.{Registers}
use Rattle.bus_cycles.specs.Private.Held.{held_bus}
use Rattle.bus_cycles.proofs.AnswerLemmas.{ok-tied, guide-tied, run-tied}
use Rattle.bus_cycles.proofs.QuietLemmas.{two_held, branched, branch-ok, branch-run}
use Rattle.bus_cycles.proofs.processor.branch.Goals as goal

pub execute-cycles-requires : goal.execute-cycles-requires
execute-cycles-requires g c =
    let m = g.B.CycleBus.meaning in
    let r = c.args.cpu.now in
    let s = g.B.CycleBus.state c.args.bus.now in
    let here = ap (λ (r : Registers). r.pc) (c.start.view_is ∙ c.registers-start.ensures) in
    ok-tied c.of.result (held_bus (two_held r c.args.opcode c.in_ok-held.field-0) 0 0 0) r
    (rw (c.of.ensures, c.of-held.ensures, here) refl)
    (branch-ok m c.args.row r s c.args.opcode c.requires.known c.requires.kind c.in_ok-held.field-0)

pub returns : goal.returns
returns g c =
    let m = g.B.CycleBus.meaning in
    let r = c.args.cpu.now in
    let s = g.B.CycleBus.state c.args.bus.now in
    let here = ap (λ (r : Registers). r.pc) (c.start.view_is ∙ c.registers-start.ensures) in
    let bus = held_bus (two_held r c.args.opcode c.in_ok-held.field-0) 0 0 0 in
    let held : c.of.result ≡ bus = rw (c.of.ensures, c.of-held.ensures, here) refl in
    run-tied m c.args.row r s c.args.opcode (Ok c.execute-cycles.result) c.execute-cycles.new.cpu (g.B.CycleBus.state c.finish_branch.new.bus)
    (branched m c.args.row r s c.args.opcode c.requires.known (g.B.CycleBus.state c.fetch.new.bus) c.execute-cycles.new.cpu c.execute-cycles.result)
    (let there = ap (λ (r : Registers). r.pc) (c.after.view_is ∙ c.registers-after.ensures) in rw (c.finish_branch.ensures, here, there) refl)
    (branch-run m c.args.row r s c.args.opcode c.requires.known c.requires.kind c.in_ok-held.field-0 (g.B.CycleBus.state c.fetch.new.bus)
    (rw here at c.in_ok-held.ensures) c.execute-cycles.result c.execute-cycles.new.cpu c.execute-cycles.new.bus
    (guide-tied r c.of.result bus c.execute-cycles.result c.execute-cycles.new.cpu c.execute-cycles.new.bus held c.execute-cycles.ensures))
