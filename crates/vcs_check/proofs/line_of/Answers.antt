use Rattle.std.proofs.Common.{inl, inr}
use Rattle.vcs_check.proofs.LineLemmas.{line_for_both}
use Rattle.vcs_check.specs.Lines.{texts_of}
use Rattle.vcs_check.proofs.line_of.Goals as goal

pub returns-in_ok-told_fault-in-Err-Of-clause-err : goal.returns-in_ok-told_fault-in-Err-Of-clause-err
returns-in_ok-told_fault-in-Err-Of-clause-err c =
    elim c.in_ok-told_fault-in-Err-Of.ensures [
      | inl advised ↦ (c.in-Err-Of.fault, advised, inl (rw c.in-Err-Of.field-0-is at c.in-Err-Of.ensures.err))
      | inr shown ↦ (shown.0, shown.1, inr shown.2)
    ]

pub returns-in_default-2-clause-ok : goal.returns-in_default-2-clause-ok
returns-in_default-2-clause-ok c = line_for_both (texts_of c.args.words.now) _ c.parse_line.ensures.ok c.parse_line.ensures.explain
