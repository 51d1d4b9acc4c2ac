use Rattle.std.proofs.Common.{◌≡◌, ◌∙◌, ℕ, ◌+◌, ◌*◌, ◌/◌, ◌%◌, Ok, refl, sym, ap, subst, arith}
use Rattle.mos_cpu.specs.Registers.{Registers, after_pushes}
use Rattle.bus_cycles.specs.Private.Fetches.{IsFetched}
use Rattle.bus_cycles.specs.Private.Found.{IsRun}
use Rattle.bus_cycles.proofs.QuietLemmas.{pushed_return, jsr-run}
use Rattle.bus_cycles.proofs.processor.jsr.Goals as goal

pub returns : goal.returns
returns g c =
    let m = g.B.CycleBus.meaning in
    let r = c.args.cpu.now in
    let s = g.B.CycleBus.state c.args.bus.now in
    let same = c.start.view_is ∙ c.registers-start.ensures in
    let here = ap (λ (r : Registers). r.pc) same in
    let stack = ap (λ (r : Registers). r.s) same in
    let low_byte : (r.pc + 2) % 65536 % 256 ≡ (r.pc + 2) % 256 = omega arith in
    let high_byte : (r.pc + 2) % 65536 / 256 % 256 ≡ (r.pc + 2) % 65536 / 256 = omega arith in
    let before = g.B.CycleBus.state c.fetch.new.bus in
    let pushed : g.B.CycleBus.state c.write-2.new.self ≡ pushed_return m c.args.row r s c.args.opcode c.requires.known before =
    rw (
      c.write-2.ensures,
      c.write.ensures,
      c.pushed_at-2.ensures,
      c.discard.ensures,
      c.pushed_at-3.ensures,
      c.pushed_at.ensures,
      c.to_le_bytes.ensures,
      here,
      stack,
      low_byte,
      high_byte,
    ) refl in
    let after = g.B.CycleBus.state c.fetch-2.new.bus in
    let there = subst (λ (at : ℕ). IsFetched m (g.B.CycleBus.state c.write-2.new.self) at c.in_ok-high.high after)
    (ap (λ (pc : ℕ). (pc + 2) % 65536) here) c.in_ok-high.ensures in
    let high = subst (λ (s : g.B.CycleBus.State). IsFetched m s ((r.pc + 2) % 65536) c.in_ok-high.high after) pushed there in
    let low = rw here at c.in_ok-low.ensures in
    let address : c.from_le_bytes.result ≡ c.in_ok-low.low + 256 * c.in_ok-high.high = omega (arith, c.from_le_bytes.ensures) in
    let target = c.in_ok-low.low + 256 * c.in_ok-high.high in
    let registers : c.of.result ≡ record r { s = after_pushes r.s 2; pc = target } =
    rw (c.of.ensures, address) (ap (λ (r : Registers). record r { s = after_pushes r.s 2; pc = target }) same) in
    subst (λ (registers : Registers). IsRun m r s c.args.opcode c.args.row (Ok 6) registers after) (sym registers)
    (jsr-run m c.args.row r s c.args.opcode c.requires.known c.requires.kind c.in_ok-low.low before low c.in_ok-high.high after high)
