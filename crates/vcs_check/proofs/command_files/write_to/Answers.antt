use Rattle.std.proofs.Common.{None, refl}
use Rattle.vcs_check.proofs.FileParts.{end_no_thread, end_part, end_quiet, end_written, text_whole}
use Rattle.vcs_check.proofs.command_files.write_to.Goals as goal

pub returns-in-Err-clause-quiet : goal.returns-in-Err-clause-quiet
returns-in-Err-clause-quiet g c =
    let ran = c.run-answer.ensures in
    rw c.by_output.ensures (end_quiet c.args.request.now.line.now _ c.in-Err.error c.output_error.result c.in-Err.ensures.err _ _ _ _ None None ran.quiet ran.memory)

pub returns-in-Err-clause-part : goal.returns-in-Err-clause-part
returns-in-Err-clause-part g c =
    let ran = c.run-answer.ensures in
    rw c.by_output.ensures
    (end_part c.args.request.now.line.now _ c.in-Err.error c.output_error.result c.in-Err.ensures.err _ _ _ _ None None _ _ c.requires ran.ok ran.write_fault ran.memory)

pub returns-in-Err-clause-no_thread : goal.returns-in-Err-clause-no_thread
returns-in-Err-clause-no_thread g c =
    rw c.by_output.ensures (end_no_thread c.args.request.now.line.now _ c.in-Err.error c.output_error.result c.in-Err.ensures.err c.run-answer.ensures.no_thread)

pub returns-then-is_err-clause-part : goal.returns-then-is_err-clause-part
returns-then-is_err-clause-part g c =
    text_whole c.args.request.now.line.now _ _ _ _ None None _ _ c.requires c.run-answer.result None (rw c.in-Ok-end.ensures.ok refl) c.run-answer.ensures.ok

pub returns-clause-ok : goal.returns-clause-ok
returns-clause-ok g c = end_written c.args.request.now.line.now _ _ _ _ None None _ _ c.requires c.run-answer.result _ c.in-Ok-end.ensures.ok c.run-answer.ensures.ok
