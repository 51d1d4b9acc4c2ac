use Rattle.std.proofs.Common.{◌≡◌, ◌∙◌, ◌+◌, ◌*◌, ◌/◌, ◌%◌, ◌<◌, true, Ok, refl, sym, ap, subst, arith, rules}
use Rattle.mos_cpu.specs.Registers.{Registers, after_pushes}
use Rattle.mos_cpu.specs.Status.{put_flag, pushed_of}
use Rattle.mos_cpu.specs.declared.status.Flag.TheVariants.{Interrupt}
use Rattle.mos_cpu.proofs.StatusLemmas.{or_48, or_weight, put_flag-status}
use Rattle.bus_cycles.specs.Private.Found.{IsRun}
use Rattle.bus_cycles.specs.declared.bus.Purpose.TheVariants.{Pointer}
use Rattle.bus_cycles.proofs.AnswerLemmas.{run-tied}
use Rattle.bus_cycles.proofs.QuietLemmas.{interrupted, brk-run}
use Rattle.bus_cycles.proofs.processor.brk.Goals as goal

pub invariant_of-of : goal.invariant_of-of
invariant_of-of g c =
    let r = c.args.cpu.now in
    let lt : c.start.inside.p < 256 = search rules in
    rw (or_weight Interrupt c.start.inside.p lt) (put_flag-status Interrupt true c.start.inside.p ∙ c.start.invariant)

pub returns : goal.returns
returns g c =
    let m = g.B.CycleBus.meaning in
    let r = c.args.cpu.now in
    let s = g.B.CycleBus.state c.args.bus.now in
    let same = c.start.view_is ∙ c.registers-start.ensures in
    let here = ap (λ (r : Registers). r.pc) same in
    let stack = ap (λ (r : Registers). r.s) same in
    let low_byte : (r.pc + 2) % 65536 % 256 ≡ (r.pc + 2) % 256 = omega arith in
    let high_byte : (r.pc + 2) % 65536 / 256 % 256 ≡ (r.pc + 2) % 65536 / 256 = omega arith in
    let lt : c.start.inside.p < 256 = search rules in
    let set = or_48 c.start.inside.p lt in
    let status = ap (λ (r : Registers). pushed_of r.p) same in
    let pushed : g.B.CycleBus.state c.write-3.new.self ≡ interrupted m c.args.row r s c.args.opcode c.requires.known =
    rw (
      c.write-3.ensures,
      c.write-2.ensures,
      c.write.ensures,
      c.pushed_at-3.ensures,
      c.pushed_at-2.ensures,
      c.discard.ensures,
      c.pushed_at.ensures,
      c.to_le_bytes.ensures,
      set,
      status,
      here,
      stack,
      low_byte,
      high_byte,
    ) refl in
    let first = interrupted m c.args.row r s c.args.opcode c.requires.known in
    let between = m.after_read first Pointer 65534 in
    let low = m.read_value first 65534 in
    let high = m.read_value between 65535 in
    let low_is : c.read-low.result ≡ low = rw (c.read-low.ensures.value, pushed) refl in
    let high_is : c.read-high.result ≡ high = rw (c.read-high.ensures.value, c.read-low.ensures.bus, pushed) refl in
    let after : g.B.CycleBus.state c.read-high.new.self ≡ m.after_read between Pointer 65535 =
    rw (c.read-high.ensures.bus, c.read-low.ensures.bus, pushed) refl in
    let word : c.from_le_bytes.result ≡ c.read-low.result + 256 * c.read-high.result = omega (arith, c.from_le_bytes.ensures) in
    let address : c.from_le_bytes.result ≡ low + 256 * high = rw (word, low_is, high_is) refl in
    let masked = or_weight Interrupt c.start.inside.p lt in
    let registers : c.of.result ≡ record r { s = after_pushes r.s 3; p = put_flag Interrupt true r.p; pc = low + 256 * high } =
    rw (c.of.ensures, address, masked)
    (ap (λ (r : Registers). record r { s = after_pushes r.s 3; p = put_flag Interrupt true r.p; pc = low + 256 * high }) same) in
    run-tied m c.args.row r s c.args.opcode (Ok 7) c.of.result (g.B.CycleBus.state c.read-high.new.self) (m.after_read between Pointer 65535) after
    (subst (λ (registers : Registers). IsRun m r s c.args.opcode c.args.row (Ok 7) registers (m.after_read between Pointer 65535))
    (sym registers) (brk-run m c.args.row r s c.args.opcode c.requires.known c.requires.kind))
