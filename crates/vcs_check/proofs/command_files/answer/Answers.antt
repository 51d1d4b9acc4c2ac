use Rattle.std.proofs.Common.{None}
use Rattle.vcs_check.proofs.FileParts.{text_part, text_quiet, text_written}
use Rattle.vcs_check.proofs.command_files.answer.Goals as goal

pub returns-in-Ok-clause-ok : goal.returns-in-Ok-clause-ok
returns-in-Ok-clause-ok g c =
    text_written c.args.request.now.line.now _ _ _ _ None None _ _ (λ takes. let e = c.if-takes_file.ensures.1 takes in absurd (cc)) c.in-Ok.answered c.in-Ok.ensures.ok

pub returns-in-Err-clause-quiet : goal.returns-in-Err-clause-quiet
returns-in-Err-clause-quiet g c = text_quiet c.args.request.now.line.now _ _ _ _ _ _ c.in-Err.error c.in-Err.ensures.quiet c.in-Err.ensures.memory

pub returns-in-Err-clause-part : goal.returns-in-Err-clause-part
returns-in-Err-clause-part g c =
    text_part c.args.request.now.line.now _ _ _ _ _ _ _ _ (λ takes. let e = c.if-takes_file.ensures.1 takes in absurd (cc)) c.in-Err.error c.in-Err.ensures.write_fault c.in-Err.ensures.memory
