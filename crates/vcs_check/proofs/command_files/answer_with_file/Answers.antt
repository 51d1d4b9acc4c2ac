use Rattle.std.proofs.Common.{Err, Ok}
use Rattle.vcs_check.proofs.InputLemmas.{LeavesPart-weaker, Writes-weaker, part_by_input}
use Rattle.vcs_check.proofs.command_files.answer_with_file.Goals as goal

pub returns-in-Ok-clause-ok : goal.returns-in-Ok-clause-ok
returns-in-Ok-clause-ok g c = Writes-weaker c.args.request.now.line.now _ _ (λ bytes old new read. read.0) _ _ (Ok c.in-Ok.answered) c.in-Ok.ensures.ok

pub returns-clause-part : goal.returns-clause-part
returns-clause-part g c = rw c.by_input.ensures (part_by_input c.args.request.now.line.now _ _ _ c.in-Err.failure c.file_error.result
    (LeavesPart-weaker c.args.request.now.line.now _ _ (λ bytes old new read. read.0) _ _ (Err c.in-Err.failure) c.in-Err.ensures.part))
