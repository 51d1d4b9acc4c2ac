use Rattle.std.proofs.Common.{arith, Err, ap}
use Rattle.commands.specs.declared.status.Status.TheVariants as statuses
use Rattle.commands.proofs.TracedFrames.{fault_before}
use Rattle.commands.proofs.WrittenFrames.{the_error}
use Rattle.commands.proofs.trace.trace.Goals as goal

pub returns-in_err-write_last-in-Err-clause-fault : goal.returns-in_err-write_last-in-Err-clause-fault
returns-in_err-write_last-in-Err-clause-fault g c = λ is.
    let error = the_error c.from_residual-in_err-write_last-in-Err.result _ _ c.from_residual-in_err-write_last-in-Err.ensures.1 is in
    let told = fault_before c.args.movie.now c.get-frame.result c.in-Err.fault.frame c.in-Err.fault.kind (omega arith) (rw c.in-Err.is at c.in_ok-cursor.ensures.faults) in
    rw (← c.get-frame.ensures.value) (statuses.Fault, _, told, c.in_err-write_last-in-Err.ensures.fault (ap Err error))

pub returns-in-Ok-clause-ok : goal.returns-in-Ok-clause-ok
returns-in-Ok-clause-ok g c = rw (← c.get-frame.ensures.value) c.trace_frame.ensures.ok

pub returns-in-Ok-clause-fault : goal.returns-in-Ok-clause-fault
returns-in-Ok-clause-fault g c = rw (← c.get-frame.ensures.value) c.trace_frame.ensures.fault

pub returns-in_ok-write_last-in-Err-clause-ok : goal.returns-in_ok-write_last-in-Err-clause-ok
returns-in_ok-write_last-in-Err-clause-ok g c =
    let told = fault_before c.args.movie.now c.get-frame.result c.in-Err.fault.frame c.in-Err.fault.kind (omega arith) (rw c.in-Err.is at c.in_ok-cursor.ensures.faults) in
    rw (← c.get-frame.ensures.value) (_, told, c.in_ok-write_last-in-Err.ensures.ok)
