use Rattle.std.proofs.Common.{◌≡◌, ◌∙◌, refl, ap}
use Rattle.mos_cpu.specs.Registers.{Registers}
use Rattle.bus_cycles.proofs.AnswerLemmas.{ok-tied, guide-tied}
use Rattle.bus_cycles.proofs.AtHandLemmas.{near, near-ok, near-step, step-tied}
use Rattle.bus_cycles.proofs.at_hand.step_at_hand.Goals as goal

pub execute_here-cycles-requires : goal.execute_here-cycles-requires
execute_here-cycles-requires g c =
    let m = g.B.CycleBus.meaning in
    let r = c.args.cpu.now in
    let s = g.B.CycleBus.state c.args.bus.now in
    let short = c.requires.short in
    let here = ap (λ (r : Registers). r.pc) (c.start.view_is ∙ c.registers-start.ensures) in
    ok-tied c.of-held.result (near m c.args.short.row r s c.args.short.opcode c.args.short.low short.known short.bytes c.args.short.class) r
    (rw (c.of-held.ensures, c.begin-byte.ensures.byte, here) refl)
    (near-ok m c.args.short.row r s c.args.short.opcode c.args.short.low short.known short.bytes c.args.short.class short.class_is short.named c.requires.class)

pub returns : goal.returns
returns g c =
    let m = g.B.CycleBus.meaning in
    let r = c.args.cpu.now in
    let s = g.B.CycleBus.state c.args.bus.now in
    let short = c.requires.short in
    let here = ap (λ (r : Registers). r.pc) (c.start.view_is ∙ c.registers-start.ensures) in
    let there = ap (λ (r : Registers). r.pc) (c.after.view_is ∙ c.registers-after.ensures) in
    let bytes = near m c.args.short.row r s c.args.short.opcode c.args.short.low short.known short.bytes c.args.short.class in
    let held : c.of-held.result ≡ bytes = rw (c.of-held.ensures, c.begin-byte.ensures.byte, here) refl in
    step-tied m r s c.execute_here-cycles.result c.execute_here-cycles.new.cpu (g.B.CycleBus.state c.end.new.bus) _
    (rw (c.end.ensures, c.begin-byte.ensures.bus, here, there, c.last.ensures) refl)
    (near-step m c.args.short.row r s c.args.short.opcode c.args.short.low short.known short.bytes c.args.short.class short.class_is short.named c.requires.class
    c.execute_here-cycles.result c.execute_here-cycles.new.cpu c.execute_here-cycles.new.bus
    (guide-tied r c.of-held.result bytes c.execute_here-cycles.result c.execute_here-cycles.new.cpu c.execute_here-cycles.new.bus held
    c.execute_here-cycles.ensures))
