use Rattle.vcs_machine.proofs.SinkLemmas.{plays-on, halts-on}
use Rattle.vcs_machine.proofs.FrameOutcomes.{stop-aligned}
use Rattle.vcs_machine.proofs.frames.frame_onto.Goals as goal

pub finish-after-requires : goal.finish-after-requires
finish-after-requires g c =
    let ended = rw (c.cpu-cpu.ensures.value, c.begin-console.ensures.value) at c.run_frame-ran.ensures.ok in
    let halted = rw (c.cpu-cpu.ensures.value, c.begin-console.ensures.value) at c.run_frame-ran.ensures.err in
    stop-aligned g.S.Paint.drawn c.args.cart.now c.args.state.now c.args.input c.args.sink c.cpu-cpu.ensures.lawful
    c.run_frame-ran.result c.run_frame-ran.new.cpu c.run_frame-ran.new.console ended halted

pub returns-in-Ok-clause-ok : goal.returns-in-Ok-clause-ok
returns-in-Ok-clause-ok g c =
    let stopped = rw (c.cpu-cpu.ensures.value, c.begin-console.ensures.value) at c.in-Ok.ensures.ok in
    rw (c.finish-after.ensures.state, c.finish-after.ensures.sink)
    (plays-on g.S.Paint.drawn c.args.cart.now c.args.state.now c.args.input c.args.sink
    (record { registers = c.run_frame-ran.new.cpu; bus = c.run_frame-ran.new.console; cycles = c.in-Ok.cycles }) stopped)

pub returns-in-Err-clause-err : goal.returns-in-Err-clause-err
returns-in-Err-clause-err g c =
    let stopped = rw (c.cpu-cpu.ensures.value, c.begin-console.ensures.value) at c.in-Err.ensures.err in
    rw c.finish-after.ensures.state
    (halts-on g.S.Paint.drawn c.args.cart.now c.args.state.now c.args.input c.args.sink c.in-Err.halt.kind
    (record { registers = c.run_frame-ran.new.cpu; bus = c.run_frame-ran.new.console; cycles = c.in-Err.halt.cycles }) stopped)
