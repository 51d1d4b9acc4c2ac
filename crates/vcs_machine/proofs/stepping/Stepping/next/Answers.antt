use Rattle.std.proofs.Common.{◌≡◌, arith, rules, ◌+◌, ◌/◌, ◌%◌, ◌∙◌, [], refl, ap}
use Rattle.std.proofs.lemmas.Grind.{common_steps}
use Rattle.mos_cpu.specs.Buses.{Meaning}
use Rattle.mos_cpu.specs.Execution.{step_of}
use Rattle.vcs_machine.specs.Consoles.{meaning_of}
use Rattle.vcs_machine.specs.Frame.{Machine}
use Rattle.vcs_machine.specs.Instructions.{Undrawn, byte_at, data_accesses, with_pixel_lost}
use Rattle.vcs_machine.specs.Private.Logged.{Logged, logging}
use Rattle.vcs_machine.proofs.LoggedLemmas.{logged-accesses, logged-below}
use Rattle.vcs_machine.proofs.PollLemmas.{faulty_turn, waited_turn}
use Rattle.vcs_machine.proofs.stepping.Stepping.next.Goals as goal

abbrev M : Meaning Undrawn
M = meaning_of with_pixel_lost

pub returns-in-Err-clause-fault : goal.returns-in-Err-clause-fault
returns-in-Err-clause-fault c =
    let l : Logged Undrawn = record { bus = c.beam-line.new.self; accesses = c.self.inside.bus.accesses.items } in
    let m : Machine Undrawn = record { registers = c.self.inside.cpu; bus = c.beam-line.new.self; cycles = c.self.inside.cycles } in
    let at : m ≡ c.args.self.now = cc in
    (c.in-Err.fault, c.from.ensures, rw (← at) (faulty_turn with_pixel_lost m c.in-Err.fault (rw (logged-below M m.registers l) c.in-Err.ensures.answer)))

pub returns : goal.returns
returns c =
    let l : Logged Undrawn = record { bus = c.beam-line.new.self; accesses = c.self.inside.bus.accesses.items } in
    let m : Machine Undrawn = record { registers = c.self.inside.cpu; bus = c.beam-line.new.self; cycles = c.self.inside.cycles } in
    let at : m ≡ c.args.self.now = cc in
    let below = logged-below M m.registers l in
    let empty : l ≡ record { bus = m.bus; accesses = [] } = cc in
    let accesses : c.replace-accesses.result.items ≡ data_accesses M m.registers m.bus =
    rw c.replace-accesses.ensures.value
    (ap (λ (x : Logged Undrawn). x.accesses) c.in-Ok.ensures.bus
    ∙ ap (λ (x : Logged Undrawn). (step_of (logging M) m.registers x).bus.accesses) empty
    ∙ logged-accesses M m.registers m.bus) in
    let line : c.beam-line.result.0 ≡ m.bus.tia.line = cc in
    let cycle : c.beam-line.result.1 ≡ m.bus.tia.fields.clock / 3 = cc in
    let bank : c.bank-bank.result ≡ m.bus.bank = cc in
    let pc : c.cpu.inside.pc ≡ m.registers.pc = cc in
    let opcode : c.byte_at-opcode.result ≡ byte_at M m.bus m.registers.pc = rw (c.beam-line.ensures.bus, ← pc) c.byte_at-opcode.ensures in
    let low : c.byte_at-low.result ≡ byte_at M m.bus ((m.registers.pc + 1) % 65536) = rw (c.beam-line.ensures.bus, ← pc) c.byte_at-low.ensures in
    let high : c.byte_at-high.result ≡ byte_at M m.bus ((m.registers.pc + 2) % 65536) = rw (c.beam-line.ensures.bus, ← pc) c.byte_at-high.ensures in
    record {
      went = rw (← at, c.wait.ensures.bus, c.wait.ensures.cycles)
          (waited_turn with_pixel_lost m c.in-Ok.taken c.step.new.cpu c.step.new.bus.console
          (rw below c.in-Ok.ensures.answer) (rw below c.in-Ok.ensures.registers) (rw below (ap (λ (x : Logged Undrawn). x.bus) c.in-Ok.ensures.bus)));
      executed = rw (← at, line, cycle, bank, opcode, low, high, accesses) refl;
      later = grind (arith, common_steps);
      fault = search rules;
      same = search rules;
    }
