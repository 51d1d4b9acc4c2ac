use Rattle.std.proofs.Common.{◌<◌, ap, arith, bytes_eq, codes, length, not, sym, ◌∙◌}
use Rattle.vcs_check.proofs.LineLemmas.{left_out, let_in, not_false, not_true}
use Rattle.vcs_check.proofs.advice.without_explain.Goals as goal
use Rattle.vcs_check.proofs.advice.without_explain.Goals.{then-ne+in_ok-from_str+in_ok-push, else-ne}

pub loop-word-preserved : goal.loop-word-preserved
loop-word-preserved c =
    let words = c.args.words.now in
    let i = c.loop-word.word-index in
    let word = c.word-item.result in
    let within : i < length words = omega arith in
    let compared = ap (λ text. not (bytes_eq text (codes "--explain"))) (sym c.as_str.ensures.value) ∙ sym c.ne.ensures in
    elim c.if-ne.branch [
      | then-ne+in_ok-from_str+in_ok-push w ↦
          rw (w.others-is, w.in_ok-push.ensures.items)
          (let_in words c.loop-word.others.items i word w.in_ok-from_str.field-0 within c.word-item.is c.loop-word.invariant
          (not_true _ (compared ∙ w.if-ne.true)) (w.in_ok-from_str.ensures.ok ∙ w.deref.ensures))
      | else-ne w ↦
          rw w.others-is
          (left_out words c.loop-word.others.items i word within c.word-item.is c.loop-word.invariant (not_false _ (compared ∙ w.if-ne.false)))
    ]
