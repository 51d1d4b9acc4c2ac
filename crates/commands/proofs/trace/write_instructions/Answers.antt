use Rattle.std.proofs.Common.{◌∙◌, sym, arith, Err, ap}
use Rattle.commands.proofs.TraceSteps.{ended_here, faulted_here, one_written, overlong_here}
use Rattle.movie_machine.proofs.StepLemmas.{short_of}
use Rattle.commands.proofs.TraceSteps.{part_written, some_written}
use Rattle.commands.proofs.WrittenFrames.{the_error}
use Rattle.commands.proofs.trace.write_instructions.Goals as goal

pub loop-alloc-smaller : goal.loop-alloc-smaller
loop-alloc-smaller g c =
    omega (arith, short_of c.loop-alloc.stepping (sym c.is_over.ensures ∙ c.loop-alloc-test.true), c.in-Ok.ensures.later)

pub returns-in-Err-clause-ok : goal.returns-in-Err-clause-ok
returns-in-Err-clause-ok g c =
    let fault = c.in-Err.ensures.fault in
    faulted_here c.loop-alloc.invariant (sym c.is_over.ensures ∙ c.loop-alloc-test.true) fault.0 c.in-Err.kind c.next.new.self fault.1 fault.2

pub loop-alloc-preserved : goal.loop-alloc-preserved
loop-alloc-preserved g c =
    one_written c.loop-alloc.invariant (sym c.is_over.ensures ∙ c.loop-alloc-test.true) c.in-Ok.ensures.went _
    (rw c.in-Ok.ensures.executed at c.in_ok-write_instruction-in-Ok.ensures.ok)

pub returns-in_err-write_instruction-in-Ok-clause-memory : goal.returns-in_err-write_instruction-in-Ok-clause-memory
returns-in_err-write_instruction-in-Ok-clause-memory g c = λ is.
    let error = the_error c.from_residual.result _ _ c.from_residual.ensures.1 is in
    some_written c.loop-alloc.invariant _ (c.in_err-write_instruction-in-Ok.ensures.memory (ap Err error))

pub returns-in_err-write_instruction-in-Ok-clause-fault : goal.returns-in_err-write_instruction-in-Ok-clause-fault
returns-in_err-write_instruction-in-Ok-clause-fault g c = λ is.
    let error = the_error c.from_residual.result _ _ c.from_residual.ensures.1 is in
    part_written c.loop-alloc.invariant (sym c.is_over.ensures ∙ c.loop-alloc-test.true) c.in-Ok.ensures.went _
    (rw c.in-Ok.ensures.executed at (c.in_err-write_instruction-in-Ok.ensures.fault (ap Err error)))

pub returns-then-has_ended-clause-ok : goal.returns-then-has_ended-clause-ok
returns-then-has_ended-clause-ok g c =
    ended_here c.loop-alloc.invariant c.requires.fresh c.requires.unended (sym c.is_over.ensures ∙ c.loop-alloc-test.false)
    (sym c.has_ended.ensures ∙ c.if-has_ended.true)

pub returns-else-has_ended-clause-ok : goal.returns-else-has_ended-clause-ok
returns-else-has_ended-clause-ok g c =
    overlong_here c.loop-alloc.invariant c.requires.fresh c.requires.unended (sym c.is_over.ensures ∙ c.loop-alloc-test.false)
    (sym c.has_ended.ensures ∙ c.if-has_ended.false)
