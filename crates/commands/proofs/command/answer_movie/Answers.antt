use Rattle.std.proofs.Common.{Err, ap, inr, refl}
use Rattle.std.specs.NonZero.{non_zero_u32_get}
use Rattle.picture_file.proofs.BytesWritten.{appends_nothing}
use Rattle.commands.specs.Answers.{text_answer}
use Rattle.commands.specs.Remarks.{no_frame}
use Rattle.commands.proofs.CommandAnswers.{drawn_remark}
use Rattle.commands.proofs.WrittenFrames.{the_error}
use Rattle.commands.proofs.command.answer_movie.Goals as goal

pub returns-in_err-status-in-Frames-clause-write_fault : goal.returns-in_err-status-in-Frames-clause-write_fault
returns-in_err-status-in-Frames-clause-write_fault g c = λ is.
    let error = the_error c.from_residual.result _ _ c.from_residual.ensures.1 is in
    let told = c.in_err-status-in-Frames.ensures.fault (ap Err error) in
    let remark = no_frame c.args.movie (non_zero_u32_get c.in-Frames.first) in
    rw c.in-Frames.is (record (text_answer told.0 told.1) { remark = remark }, (told.2, refl, refl), inr (appends_nothing _, told.3))

pub returns-in_err-status-in-Pictures-clause-write_fault : goal.returns-in_err-status-in-Pictures-clause-write_fault
returns-in_err-status-in-Pictures-clause-write_fault g c = λ is.
    let from = c.from_residual-in_err-status-in-Pictures in
    let error = the_error from.result _ _ from.ensures.1 is in
    rw c.in-Pictures.is (c.in_err-status-in-Pictures.ensures.fault (ap Err error))

pub returns-in_err-status-in-Trace-clause-write_fault : goal.returns-in_err-status-in-Trace-clause-write_fault
returns-in_err-status-in-Trace-clause-write_fault g c = λ is.
    let from = c.from_residual-in_err-status-in-Trace in
    let error = the_error from.result _ _ from.ensures.1 is in
    let told = c.in_err-status-in-Trace.ensures.fault (ap Err error) in
    let remark = no_frame c.args.movie (non_zero_u32_get c.in-Trace.frame) in
    rw c.in-Trace.is (record (text_answer told.0 told.1) { remark = remark }, (told.2, refl, refl), inr (appends_nothing _, told.3))

pub returns-in_ok-status-in-Frames-clause-ok : goal.returns-in_ok-status-in-Frames-clause-ok
returns-in_ok-status-in-Frames-clause-ok g c =
    let told = c.in_ok-status-in-Frames.ensures.ok in
    let remark = no_frame c.args.movie (non_zero_u32_get c.in-Frames.first) in
    rw c.in-Frames.is (record (text_answer _ told.0) { remark = remark }, (told.1, refl, refl), c.of_frames.ensures, told.2, appends_nothing _)

pub returns-in_ok-status-in-Pictures-clause-ok : goal.returns-in_ok-status-in-Pictures-clause-ok
returns-in_ok-status-in-Pictures-clause-ok g c =
    let told = c.in_ok-status-in-Pictures.ensures.ok in
    let remark = drawn_remark c.args.movie (non_zero_u32_get c.in-Pictures.first) c.in-Pictures.count told.0 told.1 in
    rw c.in-Pictures.is (told.0, told.1, rw (c.of_frames-in-Pictures.ensures, told.2, remark) refl, told.4, told.3)

pub returns-in_ok-status-in-Trace-clause-ok : goal.returns-in_ok-status-in-Trace-clause-ok
returns-in_ok-status-in-Trace-clause-ok g c =
    let told = c.in_ok-status-in-Trace.ensures.ok in
    let remark = no_frame c.args.movie (non_zero_u32_get c.in-Trace.frame) in
    rw c.in-Trace.is (record (text_answer _ told.0) { remark = remark }, (told.1, refl, refl), c.of_frames-in-Trace.ensures, told.2, appends_nothing _)
