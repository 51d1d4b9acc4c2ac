use Rattle.std.proofs.Common.{refl}
use Rattle.picture_file.proofs.BytesWritten.{keeps_same}
use Rattle.vcs_check.proofs.InputLemmas.{LeavesPart-weaker, Writes-weaker}
use Rattle.vcs_check.proofs.command_files.answer_with.Goals as goal

pub returns-then-reads_second-clause-part : goal.returns-then-reads_second-clause-part
returns-then-reads_second-clause-part g c = LeavesPart-weaker c.args.request.now.line.now _ _
    (λ bytes old new read. (read.0, (λ is. (read.1, read.2)), λ other. absurd (other (c.if-reads_second.ensures.0 refl)))) _ _ c.answer.result c.answer.ensures.part

pub returns-in-Some-clause-part : goal.returns-in-Some-clause-part
returns-in-Some-clause-part g c = LeavesPart-weaker c.args.request.now.line.now _ _
    (λ bytes old new read. (read, (λ is. let e = c.if-reads_second.ensures.1 is in absurd (cc)), λ other. keeps_same _))
    _ _ c.answer_with_file.result c.answer_with_file.ensures.part

pub returns-in-None-clause-part : goal.returns-in-None-clause-part
returns-in-None-clause-part g c = LeavesPart-weaker c.args.request.now.line.now _ _
    (λ bytes old new read. (read.0, (λ is. let e = c.if-reads_second.ensures.1 is in absurd (cc)), λ other. keeps_same _))
    _ _ c.answer-in-None.result c.answer-in-None.ensures.part

pub returns-in-Some-clause-ok : goal.returns-in-Some-clause-ok
returns-in-Some-clause-ok g c = Writes-weaker c.args.request.now.line.now _ _
    (λ bytes old new read. (read, (λ is. let e = c.if-reads_second.ensures.1 is in absurd (cc)), λ other. keeps_same _))
    _ _ c.answer_with_file.result c.answer_with_file.ensures.ok

pub returns-in-None-clause-ok : goal.returns-in-None-clause-ok
returns-in-None-clause-ok g c = Writes-weaker c.args.request.now.line.now _ _
    (λ bytes old new read. (read.0, (λ is. let e = c.if-reads_second.ensures.1 is in absurd (cc)), λ other. keeps_same _))
    _ _ c.answer-in-None.result c.answer-in-None.ensures.ok

pub returns-then-reads_second-clause-ok : goal.returns-then-reads_second-clause-ok
returns-then-reads_second-clause-ok g c = Writes-weaker c.args.request.now.line.now _ _
    (λ bytes old new read. (read.0, (λ is. (read.1, read.2)), λ other. absurd (other (c.if-reads_second.ensures.0 refl)))) _ _ c.answer.result c.answer.ensures.ok
