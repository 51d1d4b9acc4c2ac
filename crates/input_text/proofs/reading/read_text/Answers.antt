use Rattle.std.proofs.Common.{◌≡◌, Err}
use Rattle.std.proofs.Common.{sym, ap, true, false, ◌∙◌, arith}
use Rattle.input_text.proofs.GoodLines.{fits, lines_left, read_more, read_bad, line_in}
use Rattle.input_text.proofs.GoodLines.{read_all, frames_said}
use Rattle.std.proofs.lemmas.Bool.{and_left}
use Rattle.std.proofs.lemmas.Bool.Decides.{nat_tests}
use Rattle.input_text.proofs.reading.read_text.Goals as goal
use Rattle.input_text.proofs.reading.read_text.Goals.{in_default-stretch_in-via-in_default-stretch_in}
use Rattle.input_text.proofs.reading.read_text.Goals.{in_default-stretch_in-via-in-Some-stretch_in+else-stretch-free}

pub returns-in_default-stretch_in-clause-bad : goal.returns-in_default-stretch_in-clause-bad
returns-in_default-stretch_in-clause-bad c number e =
    let bad : fits c.loop-rest.inputs.items c.first_line.result.0.now ≡ false = elim c.in_default-stretch_in.branch [
      | in_default-stretch_in-via-in-Some-stretch_in+else-stretch-free w ↦ grind (arith, nat_tests, w.in-Some-stretch_in.ensures.count)
      | in_default-stretch_in-via-in_default-stretch_in w ↦ and_left _ _ (sym w.in_default-stretch_in.ensures.readable)
    ] in
    let said = read_bad _ _ _ _ _ c.first_line.result.1 c.loop-rest.invariant.read (ap lines_left c.in-Some.is ∙ c.first_line.ensures.lines) bad in
    said ∙ ap (λ r. Err (line_in r)) e

pub loop-rest-preserved : goal.loop-rest-preserved
loop-rest-preserved c =
    let fit : fits c.loop-rest.inputs.items c.first_line.result.0.now ≡ true = grind (arith, nat_tests, c.in-Some-stretch_in.ensures.count) in
    record {
      read = rw (c.in_ok-resize-in-Some-stretch_in.ensures.items, c.in-Some-stretch_in.ensures.input)
          (read_more _ _ _ _ _ c.first_line.result.1 c.loop-rest.invariant.read (ap lines_left c.in-Some.is ∙ c.first_line.ensures.lines) _ _ fit
          (omega (arith, c.len-in-Some-stretch_in.ensures)) (omega (arith, c.in-Some-stretch_in.ensures.count, c.len-in-Some-stretch_in.ensures)));
      left = grind (arith, c.first_line.ensures.shorter, c.loop-rest.invariant.left);
    }

pub returns-clause-found : goal.returns-clause-found
returns-clause-found c = read_all _ _ _ (rw c.in_default.is at c.loop-rest.invariant.read)

pub returns-in_err-resize-in-Some-stretch_in-clause-memory : goal.returns-in_err-resize-in-Some-stretch_in-clause-memory
returns-in_err-resize-in-Some-stretch_in-clause-memory c e =
    let fit : fits c.loop-rest.inputs.items c.first_line.result.0.now ≡ true = grind (arith, nat_tests, c.in-Some-stretch_in.ensures.count) in
    frames_said _ _ _ _ _ c.first_line.result.1 c.loop-rest.invariant.read (ap lines_left c.in-Some.is ∙ c.first_line.ensures.lines) fit
    (omega (arith, c.in-Some-stretch_in.ensures.count, c.in_err-resize-in-Some-stretch_in.ensures.full, c.len-in-Some-stretch_in.ensures))
