use Rattle.std.proofs.Common.{◌≡◌, ◌<◌, ◌∙◌, arith, refl, true, false}
use Rattle.mos_cpu.specs.declared.fault.CpuFault.{CpuFault}
use Rattle.mos_cpu.specs.declared.fault.CpuFault.TheVariants.{BadOpcode, FetchOutside}
use Rattle.vcs_machine.specs.Consoles.{after_wait, frame_meaning_of}
use Rattle.vcs_machine.specs.Faults.{stop_with, kind_of}
use Rattle.vcs_machine.specs.Frame.{Machine, Faulted}
use Rattle.vcs_machine.specs.Private.BeamCycles.{beam_cycles}
use Rattle.vcs_machine.proofs.OneStop.{stops-long}
use Rattle.vcs_machine.proofs.BeamCycleLemmas.{early-short, faulty-stop, quiet-on, waited-on}
use Rattle.vcs_machine.proofs.frame_loop.run_until_stop.Goals as goal

-- The stop of a processor's fault.
halted-kind_of : {B : Type 0} (fault : CpuFault) (m : Machine B) → stop_with (kind_of fault) m ≡ Faulted fault m
halted-kind_of (BadOpcode opcode at) m = refl
halted-kind_of (FetchOutside at) m = refl

pub returns-in-Err-clause-err : goal.returns-in-Err-clause-err
returns-in-Err-clause-err g c =
    let e = c.in-Err.ensures in
    rw (c.from-kind.ensures, halted-kind_of, c.beam_cycles.ensures.cycles, c.beam_cycles.ensures.bus, e.fault_cpu, e.fault_bus)
    (faulty-stop g.S.Paint.drawn (record { registers = c.args.cpu.now; bus = c.args.console.now; cycles = 0 })
    c.beam_cycles-start.result c.loop-fault.cpu c.loop-fault.console c.loop-fault.invariant c.in-Err.fault e.answer)

pub overflow_sub-result : goal.overflow_sub-result
overflow_sub-result g c =
    let e = c.in_default.ensures in
    let w = waited-on g.S.Paint.drawn (record { registers = c.args.cpu.now; bus = c.args.console.now; cycles = 0 })
    c.beam_cycles-start.result c.loop-fault.cpu c.loop-fault.console c.loop-fault.invariant c.in_default.field-0 _ _ e.answer e.registers e.bus in
    rw (c.beam_cycles-then-has_ended.ensures.cycles, c.wait-waited.ensures.bus) w.begun.begun

pub returns-then-has_ended-clause-ok : goal.returns-then-has_ended-clause-ok
returns-then-has_ended-clause-ok g c =
    let e = c.in_default.ensures in
    let w = waited-on g.S.Paint.drawn (record { registers = c.args.cpu.now; bus = c.args.console.now; cycles = 0 })
    c.beam_cycles-start.result c.loop-fault.cpu c.loop-fault.console c.loop-fault.invariant c.in_default.field-0 _ _ e.answer e.registers e.bus in
    let over : (after_wait g.S.Paint.drawn c.step_running.new.bus).ended ≡ true = cc in
    rw (c.beam_cycles-then-has_ended.ensures.cycles, c.beam_cycles-then-has_ended.ensures.bus, c.wait-waited.ensures.bus) (w.over over)

pub returns-then-has_ended-clause-most : goal.returns-then-has_ended-clause-most
returns-then-has_ended-clause-most g c =
    let e = c.in_default.ensures in
    let w = waited-on g.S.Paint.drawn (record { registers = c.args.cpu.now; bus = c.args.console.now; cycles = 0 })
    c.beam_cycles-start.result c.loop-fault.cpu c.loop-fault.console c.loop-fault.invariant c.in_default.field-0 _ _ e.answer e.registers e.bus in
    rw (c.beam_cycles-then-has_ended.ensures.cycles, c.wait-waited.ensures.bus) w.most

pub pass_rounds_after-requires-clause-begun : goal.pass_rounds_after-requires-clause-begun
pass_rounds_after-requires-clause-begun g c =
    let e = c.in_default.ensures in
    let w = waited-on g.S.Paint.drawn (record { registers = c.args.cpu.now; bus = c.args.console.now; cycles = 0 })
    c.beam_cycles-start.result c.loop-fault.cpu c.loop-fault.console c.loop-fault.invariant c.in_default.field-0 _ _ e.answer e.registers e.bus in
    rw c.wait-waited.ensures.bus w.begun

pub returns-then-cycles-ge-TOO_MANY_CYCLES-clause-err : goal.returns-then-cycles-ge-TOO_MANY_CYCLES-clause-err
returns-then-cycles-ge-TOO_MANY_CYCLES-clause-err g c =
    let e = c.in_default.ensures in
    let w = waited-on g.S.Paint.drawn (record { registers = c.args.cpu.now; bus = c.args.console.now; cycles = 0 })
    c.beam_cycles-start.result c.loop-fault.cpu c.loop-fault.console c.loop-fault.invariant c.in_default.field-0 _ _ e.answer e.registers e.bus in
    let going : (after_wait g.S.Paint.drawn c.step_running.new.bus).ended ≡ false = cc in
    let told = c.beam_cycles-then-has_event-2.ensures.cycles in
    let long = rw told at c.if-cycles-ge-TOO_MANY_CYCLES.true in
    rw (told, c.beam_cycles-then-has_event-2.ensures.bus)
    (w.on going
    ∙ (rw c.wait-waited.ensures.bus at c.pass_rounds_after.ensures.stops)
    ∙ stops-long (frame_meaning_of g.S.Paint.drawn) _ long)

pub loop-fault-smaller-else-cycles-ge-TOO_MANY_CYCLES : goal.loop-fault-smaller-else-cycles-ge-TOO_MANY_CYCLES
loop-fault-smaller-else-cycles-ge-TOO_MANY_CYCLES g c =
    let e = c.in_default.ensures in
    let w = waited-on g.S.Paint.drawn (record { registers = c.args.cpu.now; bus = c.args.console.now; cycles = 0 })
    c.beam_cycles-start.result c.loop-fault.cpu c.loop-fault.console c.loop-fault.invariant c.in_default.field-0 _ _ e.answer e.registers e.bus in
    let later = rw c.wait-waited.ensures.bus at c.pass_rounds_after.ensures.later in
    let more : beam_cycles c.loop-fault.console < beam_cycles c.beam_cycles-then-has_event-2.new.self =
    rw c.beam_cycles-then-has_event-2.ensures.bus (let first = w.later in omega arith) in
    let begun = c.loop-fault.invariant.begun.begun in
    let short = c.loop-fault.invariant.short in
    omega arith

pub loop-fault-preserved-else-cycles-ge-TOO_MANY_CYCLES : goal.loop-fault-preserved-else-cycles-ge-TOO_MANY_CYCLES
loop-fault-preserved-else-cycles-ge-TOO_MANY_CYCLES g c =
    let e = c.in_default.ensures in
    let w = waited-on g.S.Paint.drawn (record { registers = c.args.cpu.now; bus = c.args.console.now; cycles = 0 })
    c.beam_cycles-start.result c.loop-fault.cpu c.loop-fault.console c.loop-fault.invariant c.in_default.field-0 _ _ e.answer e.registers e.bus in
    let going : (after_wait g.S.Paint.drawn c.step_running.new.bus).ended ≡ false = cc in
    let stops = rw c.wait-waited.ensures.bus at c.pass_rounds_after.ensures.stops in
    let short = rw c.beam_cycles-then-has_event-2.ensures.cycles at c.if-cycles-ge-TOO_MANY_CYCLES.false in
    rw c.beam_cycles-then-has_event-2.ensures.bus
    (record { stops = w.on going ∙ stops; begun = c.pass_rounds_after.ensures.begun; short = short })

pub loop-fault-smaller-else-has_event-2 : goal.loop-fault-smaller-else-has_event-2
loop-fault-smaller-else-has_event-2 g c =
    let e = c.in_default.ensures in
    let w = waited-on g.S.Paint.drawn (record { registers = c.args.cpu.now; bus = c.args.console.now; cycles = 0 })
    c.beam_cycles-start.result c.loop-fault.cpu c.loop-fault.console c.loop-fault.invariant c.in_default.field-0 _ _ e.answer e.registers e.bus in
    let later = rw c.wait-waited.ensures.bus at c.pass_rounds_after.ensures.later in
    let first = w.later in
    let begun = c.loop-fault.invariant.begun.begun in
    let short = c.loop-fault.invariant.short in
    omega arith

pub loop-fault-preserved-else-has_event-2 : goal.loop-fault-preserved-else-has_event-2
loop-fault-preserved-else-has_event-2 g c =
    let e = c.in_default.ensures in
    let w = waited-on g.S.Paint.drawn (record { registers = c.args.cpu.now; bus = c.args.console.now; cycles = 0 })
    c.beam_cycles-start.result c.loop-fault.cpu c.loop-fault.console c.loop-fault.invariant c.in_default.field-0 _ _ e.answer e.registers e.bus in
    let going : (after_wait g.S.Paint.drawn c.step_running.new.bus).ended ≡ false = cc in
    let stops = rw c.wait-waited.ensures.bus at c.pass_rounds_after.ensures.stops in
    let begun = c.pass_rounds_after.ensures.begun in
    record {
      stops = w.on going ∙ stops;
      begun = begun;
      short = early-short _ c.pass_rounds_after.new.console begun (c.if-has_event-2.ensures.early refl);
    }

pub loop-fault-smaller : goal.loop-fault-smaller
loop-fault-smaller g c =
    let e = c.in_default.ensures in
    let asked = c.if-has_event.ensures in
    let q = quiet-on g.S.Paint.drawn (record { registers = c.args.cpu.now; bus = c.args.console.now; cycles = 0 })
    c.beam_cycles-start.result c.loop-fault.cpu c.loop-fault.console c.loop-fault.invariant c.in_default.field-0 _ _ e.answer e.registers e.bus (asked.no_wait refl) (asked.no_end refl) (asked.early refl) in
    let later = q.later in
    let begun = c.loop-fault.invariant.begun.begun in
    let short = c.loop-fault.invariant.short in
    omega arith

pub loop-fault-preserved : goal.loop-fault-preserved
loop-fault-preserved g c =
    let e = c.in_default.ensures in
    let asked = c.if-has_event.ensures in
    let q = quiet-on g.S.Paint.drawn (record { registers = c.args.cpu.now; bus = c.args.console.now; cycles = 0 })
    c.beam_cycles-start.result c.loop-fault.cpu c.loop-fault.console c.loop-fault.invariant c.in_default.field-0 _ _ e.answer e.registers e.bus (asked.no_wait refl) (asked.no_end refl) (asked.early refl) in
    q.underway
