use Rattle.std.proofs.Common.{◌+◌, ◌%◌, rules, tests, ap, sym, ◌∙◌}
use Rattle.mos_cpu.specs.Registers.{Registers}
use Rattle.mos_cpu.proofs.FaultLemmas.{opcode-fault, unknown-fault, vector-outside, vector-fault, low-fault, high-fault}
use Rattle.mos_cpu.proofs.FaultLemmas.{pointer-outside, pointer-fault}
use Rattle.mos_cpu.proofs.processor.fault_address.Goals as goal

pub returns-in_default : goal.returns-in_default
returns-in_default g c =
    opcode-fault g.B.Bus.meaning (g.B.Bus.state c.args.bus.now) c.args.cpu _ (ap (λ (r : Registers). r.pc) c.cpu.view_is)
    (sym c.peek.ensures ∙ c.in_default.is)

pub returns-in_default-row : goal.returns-in_default-row
returns-in_default-row g c =
    unknown-fault g.B.Bus.meaning (g.B.Bus.state c.args.bus.now) c.args.cpu c.in-Some.opcode _
    (ap (λ (r : Registers). r.pc) c.cpu.view_is) (sym c.peek.ensures ∙ c.in-Some.is) (search rules)

pub first_outside-requires : goal.first_outside-requires
first_outside-requires g c =
    vector-outside g.B.Bus.meaning (g.B.Bus.state c.args.bus.now) c.args.cpu c.in-Some.opcode c.in-Some-row.row
    (search rules) (search rules) c.requires (search (rules, tests))

pub returns-then-eq : goal.returns-then-eq
returns-then-eq g c =
    vector-fault g.B.Bus.meaning (g.B.Bus.state c.args.bus.now) c.args.cpu c.in-Some.opcode c.in-Some-row.row
    (search rules) (search rules) c.requires c.first_outside.result (search (rules, tests)) c.first_outside.ensures

pub returns-in_default-peek : goal.returns-in_default-peek
returns-in_default-peek g c =
    low-fault g.B.Bus.meaning (g.B.Bus.state c.args.bus.now) c.args.cpu c.in-Some.opcode c.in-Some-row.row
    (search rules) (search rules) c.requires (search (rules, tests)) _ (ap (λ (r : Registers). (r.pc + 1) % 65536) c.cpu.view_is)
    (sym c.peek-2.ensures ∙ c.in_default-peek.is)

pub returns-in_default-peek-2 : goal.returns-in_default-peek-2
returns-in_default-peek-2 g c =
    high-fault g.B.Bus.meaning (g.B.Bus.state c.args.bus.now) c.args.cpu c.in-Some.opcode c.in-Some-row.row
    (search rules) (search rules) c.requires (search (rules, tests)) c.in-Some-peek.low (search rules) _
    (ap (λ (r : Registers). (r.pc + 2) % 65536) c.cpu.view_is) (sym c.peek-3.ensures ∙ c.in_default-peek-2.is)

pub first_outside-requires-2 : goal.first_outside-requires-2
first_outside-requires-2 g c =
    pointer-outside g.B.Bus.meaning (g.B.Bus.state c.args.bus.now) c.args.cpu c.in-Some.opcode c.in-Some-row.row
    (search rules) (search rules) c.requires (search (rules, tests)) c.in-Some-peek.low (search rules)
    c.in-Some-peek-2.high c.from_le_bytes-pointer.result c.next_in_page.result (search rules) (search rules) (search rules)

pub returns : goal.returns
returns g c =
    pointer-fault g.B.Bus.meaning (g.B.Bus.state c.args.bus.now) c.args.cpu c.in-Some.opcode c.in-Some-row.row
    (search rules) (search rules) c.requires (search (rules, tests)) c.in-Some-peek.low (search rules)
    c.in-Some-peek-2.high c.from_le_bytes-pointer.result c.next_in_page.result (search rules) (search rules) (search rules)
    c.first_outside-2.result c.first_outside-2.ensures
