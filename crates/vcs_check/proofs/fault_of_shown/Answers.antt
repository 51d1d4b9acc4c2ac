use Rattle.std.proofs.Common.{◌≡◌, List, arith, inr, map, subst}
use Rattle.std.proofs.lemmas.Grind.{common_steps}
use Rattle.std.proofs.lemmas.Result.{IfOk-weaker}
use Rattle.clap.specs.Words.{Text}
use Rattle.command_line.specs.Faults.{IsRefusal}
use Rattle.terminal_text.specs.Names.{shown_text}
use Rattle.vcs_check.specs.Lines.{texts_of}
use Rattle.vcs_check.proofs.fault_of_shown.Goals as goal

pub returns-in-Err-Of : goal.returns-in-Err-Of
returns-in-Err-Of c =
    let words = c.args.words.now in
    let all : texts_of c.deref-2.result.now ≡ map shown_text (texts_of words) = grind (arith, common_steps) in
    let P : List Text → Type 0 = λ texts. IsRefusal texts c.in-Err-Of.fault in
    IfOk-weaker c.advised_fault.result _ _ (λ told advised. inr (c.in-Err-Of.fault, advised, subst P all (rw c.in-Err-Of.field-0-is at c.in-Err-Of.ensures.err))) c.advised_fault.ensures
