use Rattle.mos_cpu.proofs.OpcodeRunLemmas.{decoded-short}
use Rattle.mos_cpu.specs.Registers.{Registers}
use Rattle.std.proofs.Common.{rules, ◌≡◌, ◌+◌, ◌%◌, None, subst}
use Rattle.mos_cpu.proofs.processor.run_opcode.Goals as goal

pub returns-in_err-low-in-None : goal.returns-in_err-low-in-None
returns-in_err-low-in-None g c =
    let bus = g.B.Bus.state c.args.bus.now in
    let nowhere = subst (λ (r : Registers). g.B.Bus.meaning.peeked bus ((r.pc + 1) % 65536) ≡ None) c.registers.ensures c.in_err-low-in-None.ensures.nowhere in
    let err = decoded-short g.B.Bus.meaning c.args.cpu.now bus c.in_ok-opcode.opcode (search rules) c.in_err-low-in-None.ensures.none nowhere in
    search rules
