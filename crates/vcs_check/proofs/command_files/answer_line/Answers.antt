use Rattle.std.proofs.Common.{Err, Ok, refl}
use Rattle.vcs_check.proofs.InputLemmas.{LeavesPart-weaker, Writes-weaker, part_by_input}
use Rattle.vcs_check.proofs.command_files.answer_line.Goals as goal

pub returns-then-reads_first-clause-part : goal.returns-then-reads_first-clause-part
returns-then-reads_first-clause-part g c =
    let first = c.if-reads_first.ensures.0 refl in
    LeavesPart-weaker c.args.request.now.line.now _ _
    (λ bytes old new read. ((λ is. read.0), (λ second. absurd (c.requires (first, second))), λ other others. absurd (other first)))
    _ _ c.answer_with.result c.answer_with.ensures.part

pub returns-then-reads_first-clause-ok : goal.returns-then-reads_first-clause-ok
returns-then-reads_first-clause-ok g c =
    let first = c.if-reads_first.ensures.0 refl in
    Writes-weaker c.args.request.now.line.now _ _
    (λ bytes old new read. ((λ is. read.0), (λ second. absurd (c.requires (first, second))), λ other others. absurd (other first)))
    _ _ c.answer_with.result c.answer_with.ensures.ok

pub returns-in-Ok-clause-ok : goal.returns-in-Ok-clause-ok
returns-in-Ok-clause-ok g c = Writes-weaker c.args.request.now.line.now _ _
    (λ bytes old new read. ((λ is. let e = c.if-reads_first.ensures.1 is in absurd (cc)), read.1, λ other others. read.2 others))
    _ _ (Ok c.in-Ok.answered) c.in-Ok.ensures.ok

pub returns-clause-part : goal.returns-clause-part
returns-clause-part g c = rw c.by_input.ensures
    (part_by_input c.args.request.now.line.now _ _ _ c.in-Err.failure c.file_error.result (LeavesPart-weaker c.args.request.now.line.now _ _
    (λ bytes old new read. ((λ is. let e = c.if-reads_first.ensures.1 is in absurd (cc)), read.1, λ other others. read.2 others))
    _ _ (Err c.in-Err.failure) c.in-Err.ensures.part))
