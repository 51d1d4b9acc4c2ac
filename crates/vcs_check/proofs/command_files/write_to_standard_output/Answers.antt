use Rattle.vcs_check.proofs.FileParts.{file_part, file_quiet, file_written}
use Rattle.vcs_check.proofs.command_files.write_to_standard_output.Goals as goal

pub returns-in-Ok-clause-ok : goal.returns-in-Ok-clause-ok
returns-in-Ok-clause-ok g c = file_written c.args.request.now.line.now _ _ _ _ _ _ _ _ c.requires c.in-Ok.answered c.in-Ok.ensures.ok

pub returns-in-Err-clause-quiet : goal.returns-in-Err-clause-quiet
returns-in-Err-clause-quiet g c = file_quiet c.args.request.now.line.now _ _ _ _ c.requires c.in-Err.error c.in-Err.ensures.quiet

pub returns-in-Err-clause-part : goal.returns-in-Err-clause-part
returns-in-Err-clause-part g c = file_part c.args.request.now.line.now _ _ _ _ _ _ _ _ c.requires c.in-Err.error c.in-Err.ensures.write_fault c.in-Err.ensures.memory
