use Rattle.mos_cpu.specs.Operands.{instruction_at}
use Rattle.bus_cycles.specs.Private.Held.{held_meaning}
use Rattle.bus_cycles.proofs.HeldLemmas.{step_by-ok}
use Rattle.bus_cycles.proofs.held.execute_here.Goals as goal

pub returns-in-Err : goal.returns-in-Err
returns-in-Err g c =
    absurd (step_by-ok held_meaning c.args.cpu.now c.args.bus.now c.in-Err.field-0 (instruction_at held_meaning c.args.bus.now c.args.cpu.now)
    c.requires c.in-Err.ensures.answer)
