use Rattle.mos_cpu.proofs.StepLaws.{step_of-least, step_of-most, step_of-clock}
use Rattle.mos_cpu.proofs.processor.step_running.Goals as goal

pub returns-in-Some-clause-least : goal.returns-in-Some-clause-least
returns-in-Some-clause-least g c = rw (rw c.in-Some.is at c.run_opcode.ensures) at (step_of-least g.B.Bus.meaning c.args.cpu.now (g.B.Bus.state c.args.bus.now))

pub returns-in-Some-clause-most : goal.returns-in-Some-clause-most
returns-in-Some-clause-most g c = rw (rw c.in-Some.is at c.run_opcode.ensures) at (step_of-most g.B.Bus.meaning c.args.cpu.now (g.B.Bus.state c.args.bus.now))

pub returns-in-Some-clause-clock : goal.returns-in-Some-clause-clock
returns-in-Some-clause-clock g c advance clock is =
    rw (rw c.in-Some.is at c.run_opcode.ensures) at (step_of-clock g.B.Bus.meaning advance clock is c.args.cpu.now (g.B.Bus.state c.args.bus.now))
