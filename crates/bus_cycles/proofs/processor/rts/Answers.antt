use Rattle.std.proofs.Common.{◌≡◌, ◌∙◌, ◌+◌, ◌*◌, Ok, refl, ap, arith}
use Rattle.mos_cpu.specs.Registers.{Registers, after_pulls}
use Rattle.bus_cycles.specs.Private.Held.{held_bus}
use Rattle.bus_cycles.specs.declared.bus.Purpose.TheVariants.{Data, Discarded}
use Rattle.bus_cycles.proofs.AnswerLemmas.{ok-tied, guide-tied, run-tied}
use Rattle.bus_cycles.proofs.QuietLemmas.{one_held, before_pull, rts-ok, rts-run}
use Rattle.bus_cycles.proofs.processor.rts.Goals as goal

pub execute-requires : goal.execute-requires
execute-requires g c =
    let m = g.B.CycleBus.meaning in
    let r = c.args.cpu.now in
    let s = g.B.CycleBus.state c.args.bus.now in
    ok-tied c.of.result (held_bus (one_held r c.args.opcode) c.read-low.result c.read-high.result 0) r
    (rw (c.of.ensures, c.find_none-held.ensures.held, c.registers-start.ensures) refl)
    (rts-ok m c.args.row r s c.args.opcode c.requires.known c.requires.kind c.read-low.result c.read-high.result)

pub returns : goal.returns
returns g c =
    let m = g.B.CycleBus.meaning in
    let r = c.args.cpu.now in
    let s = g.B.CycleBus.state c.args.bus.now in
    let stack = ap (λ (r : Registers). r.s) (c.start.view_is ∙ c.registers-start.ensures) in
    let first = before_pull m c.args.row r s c.args.opcode c.requires.known in
    let low = m.read_value first (256 + after_pulls r.s 1) in
    let second = m.after_read first Data (256 + after_pulls r.s 1) in
    let high = m.read_value second (256 + after_pulls r.s 2) in
    let bus = held_bus (one_held r c.args.opcode) low high 0 in
    let held : c.of.result ≡ bus = rw (
      c.of.ensures,
      c.find_none-held.ensures.held,
      c.read-low.ensures.value,
      c.read-high.ensures.value,
      c.read-low.ensures.bus,
      c.pulled_at-3.ensures,
      c.pulled_at-2.ensures,
      c.discard.ensures,
      c.pulled_at.ensures,
      c.find_none-held.ensures.bus,
      c.registers-start.ensures,
      stack,
    ) refl in
    let address : c.from_le_bytes.result ≡ c.read-low.result + 256 * c.read-high.result = omega (arith, c.from_le_bytes.ensures) in
    run-tied m c.args.row r s c.args.opcode (Ok c.execute.result) c.execute.new.cpu (g.B.CycleBus.state c.discard-2.new.bus)
    (m.after_read (m.after_read second Data (256 + after_pulls r.s 2)) Discarded (low + 256 * high))
    (rw (
      c.discard-2.ensures,
      address,
      c.read-low.ensures.value,
      c.read-high.ensures.value,
      c.read-high.ensures.bus,
      c.read-low.ensures.bus,
      c.pulled_at-3.ensures,
      c.pulled_at-2.ensures,
      c.discard.ensures,
      c.pulled_at.ensures,
      c.find_none-held.ensures.bus,
      c.registers-start.ensures,
      stack,
    ) refl)
    (rts-run m c.args.row r s c.args.opcode c.requires.known c.requires.kind c.execute.result c.execute.new.cpu c.execute.new.bus
    (guide-tied r c.of.result bus c.execute.result c.execute.new.cpu c.execute.new.bus held c.execute.ensures))
