use Rattle.std.proofs.Common.{refl, inl, inr}
use Rattle.std.specs.NonZero.{non_zero_u32_get}
use Rattle.commands.specs.declared.line.Line.TheVariants as lines
use Rattle.commands.proofs.WrittenFrames.{the_error}
use Rattle.commands.proofs.WrittenPictures.{pictures_are, told, told_in_part}
use Rattle.commands.proofs.pictures.draw.Goals as goal

pub returns-in-None-clause-ok : goal.returns-in-None-clause-ok
returns-in-None-clause-ok g c =
    rw c.frames_asked.ensures.value
    (told c.args.movie.now (non_zero_u32_get c.args.first) c.args.count _ _ (lines.Pictures _)
    (inl (c.in_ok-write_asked.ensures.ends c.in-None.is, refl)) c.in_ok-write_asked.ensures.ok)

pub returns-in-Some-clause-ok : goal.returns-in-Some-clause-ok
returns-in-Some-clause-ok g c =
    let faults = rw c.in-Some.is at c.in_ok-write_asked.ensures.faults in
    told c.args.movie.now (non_zero_u32_get c.args.first) c.args.count _ _ (lines.Fault c.in-Some.fault.frame c.in-Some.fault.kind)
    (inr (c.in-Some.fault.frame, c.in-Some.fault.kind, faults, refl)) c.in_ok-write_asked.ensures.ok

pub returns-in_err-write_asked-clause-memory : goal.returns-in_err-write_asked-clause-memory
returns-in_err-write_asked-clause-memory g c = λ is.
    let error = the_error c.from_residual.result _ _ c.from_residual.ensures.1 is in
    let stop = rw error at c.in_err-write_asked.ensures.err in
    (stop.0, stop.1, rw (pictures_are c.args.movie.now (non_zero_u32_get c.args.first) c.args.count stop.0) stop.2)

pub returns-in_err-write_asked-clause-fault : goal.returns-in_err-write_asked-clause-fault
returns-in_err-write_asked-clause-fault g c = λ is.
    let error = the_error c.from_residual.result _ _ c.from_residual.ensures.1 is in
    told_in_part c.args.movie.now (non_zero_u32_get c.args.first) c.args.count _ _ c.frames.ensures.lawful (rw error at c.in_err-write_asked.ensures.err)
