use Rattle.std.proofs.Common.{Err, ap, arith, inl, inr, refl}
use Rattle.std.specs.NonZero.{non_zero_u32_get}
use Rattle.picture_file.proofs.BytesWritten.{appends_kept, appends_then, prefix_after}
use Rattle.commands.specs.AskedFrames.{frames_asked}
use Rattle.commands.specs.declared.status.Status.TheVariants as statuses
use Rattle.commands.proofs.WrittenLines.{lines_in_part}
use Rattle.commands.proofs.WrittenFrames.{the_error}
use Rattle.commands.proofs.frames.frames.Goals as goal

pub returns-in_err-write_asked-clause-memory : goal.returns-in_err-write_asked-clause-memory
returns-in_err-write_asked-clause-memory g c = λ is.
    rw (the_error c.from_residual.result _ _ c.from_residual.ensures.1 is) at c.in_err-write_asked.ensures.err

pub returns-in_err-write_asked-clause-fault : goal.returns-in_err-write_asked-clause-fault
returns-in_err-write_asked-clause-fault g c = λ is.
    lines_in_part c.args.movie.now c.frames.ensures.lawful c.args.notation c.args.details.now (non_zero_u32_get c.args.first) c.args.count _ _
    (rw (the_error c.from_residual.result _ _ c.from_residual.ensures.1 is) at c.in_err-write_asked.ensures.err)

pub returns-in-None-clause-ok : goal.returns-in-None-clause-ok
returns-in-None-clause-ok g c = (_, inl (c.in_ok-write_asked.ensures.ends c.in-None.is, refl, refl), c.in_ok-write_asked.ensures.ok)

pub returns-in_ok-write_fault-in-Some-clause-ok : goal.returns-in_ok-write_fault-in-Some-clause-ok
returns-in_ok-write_fault-in-Some-clause-ok g c =
    let faults = rw c.in-Some.is at c.in_ok-write_asked.ensures.faults in (
      _,
      inr (c.in-Some.fault.frame, c.in-Some.fault.kind, faults, refl, refl),
      appends_then _ _ _ _ _ c.in_ok-write_asked.ensures.ok c.in_ok-write_fault-in-Some.ensures.ok,
    )

pub returns-in_err-write_fault-in-Some-clause-fault : goal.returns-in_err-write_fault-in-Some-clause-fault
returns-in_err-write_fault-in-Some-clause-fault g c = λ is.
    let from = c.from_residual-in_err-write_fault-in-Some in
    let error = the_error from.result _ _ from.ensures.1 is in
    let faults = rw c.in-Some.is at c.in_ok-write_asked.ensures.faults in (
      statuses.Fault,
      _,
      inr (c.in-Some.fault.frame, c.in-Some.fault.kind, faults, refl, refl),
      prefix_after _ _ _ _ _ c.in_ok-write_asked.ensures.ok (c.in_err-write_fault-in-Some.ensures.fault (ap Err error)),
    )

pub returns-in_err-write_fault-in-Some-clause-memory : goal.returns-in_err-write_fault-in-Some-clause-memory
returns-in_err-write_fault-in-Some-clause-memory g c = λ is.
    let from = c.from_residual-in_err-write_fault-in-Some in
    let error = the_error from.result _ _ from.ensures.1 is in
    let kept = c.in_err-write_fault-in-Some.ensures.memory (ap Err error) in (
      frames_asked c.args.movie.now (non_zero_u32_get c.args.first) c.args.count,
      omega arith,
      appends_kept _ _ (g.L.Write.contents c.write_fault.new.lines) _ c.in_ok-write_asked.ensures.ok kept,
    )
