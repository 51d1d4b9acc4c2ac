use Rattle.std.proofs.Common.{◌∙◌, Ok, sym, ap, true, subst}
use Rattle.mos_cpu.specs.Registers.{Registers}
use Rattle.bus_cycles.proofs.AnswerLemmas.{jmp-found}
use Rattle.mos_cpu.specs.Effects.{with_pc}
use Rattle.bus_cycles.specs.Private.Found.{IsFound, IsRun}
use Rattle.bus_cycles.proofs.RowLemmas.{row_of-expected}
use Rattle.bus_cycles.proofs.QuietLemmas.{jmp-run}
use Rattle.bus_cycles.proofs.processor.jmp.Goals as goal

pub find-requires-clause-place : goal.find-requires-clause-place
find-requires-clause-place g c =
    jmp-found c.args.row.mode c.args.row (rw c.requires.kind at (row_of-expected c.args.opcode c.args.row c.requires.known))

pub returns : goal.returns
returns g c =
    let m = g.B.CycleBus.meaning in
    let r = c.args.cpu.now in
    let s = g.B.CycleBus.state c.args.bus.now in
    let same = c.start.view_is ∙ c.registers.ensures in
    let found = subst (λ (r : Registers). IsFound m c.args.row r s c.args.opcode true c.in_ok-found.found (g.B.CycleBus.state c.find.new.bus)) same
    c.in_ok-found.ensures in
    let registers = c.of.ensures ∙ ap (λ (r : Registers). with_pc r c.in_ok-found.found.address) same in
    subst (λ (registers : Registers). IsRun m r s c.args.opcode c.args.row (Ok c.args.row.cycles) registers (g.B.CycleBus.state c.find.new.bus))
    (sym registers)
    (jmp-run m c.args.row r s c.args.opcode c.requires.known c.requires.kind c.in_ok-found.found (g.B.CycleBus.state c.find.new.bus) found)
