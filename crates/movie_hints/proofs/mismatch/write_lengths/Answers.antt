use Rattle.std.proofs.Common.{◌≡◌, ◌∙◌, ◌+◌, ◌++◌, [], append_assoc, append-nil, ap, arith, get_or, refl, rules, sym}
use Rattle.std.proofs.Output.{has_written_append, has_written_of_eq}
use Rattle.std.specs.Fmt.{decimal}
use Rattle.movie_hints.proofs.LengthTexts.{left_text, left_text-end, left_text-next}
use Rattle.movie_hints.proofs.mismatch.write_lengths.Goals as goal
use Rattle.movie_hints.proofs.mismatch.write_lengths.Goals.{then-i-eq0, else-i-eq0+then-i-count, else-i-eq0+else-i-count}

pub loop-i-init : goal.loop-i-init
loop-i-init g c = λ plain. ([], search rules, refl)

pub loop-i-preserved : goal.loop-i-preserved
loop-i-preserved g c =
    λ plain.
    let now = c.loop-i.invariant plain in
    let ns = c.args.lengths.now in
    let i = c.loop-i.i in
    let before = c.if-i-eq0.before.now in
    let this = decimal (get_or ns i 0) in
    let next : left_text i ns ≡ before ++ (this ++ left_text (i + 1) ns) =
    elim c.if-i-eq0.branch [
      | then-i-eq0 w ↦
          rw w.before-is
          (left_text-next ns i _ c.loop-i-test.true (λ none. refl) (λ some more. absurd (omega arith)) (λ some last. absurd (omega arith)))
      | else-i-eq0+then-i-count w ↦
          rw w.before-is
          (left_text-next ns i _ c.loop-i-test.true (λ none. absurd (omega arith)) (λ some more. refl) (λ some last. absurd (omega arith)))
      | else-i-eq0+else-i-count w ↦
          rw w.before-is
          (left_text-next ns i _ c.loop-i-test.true (λ none. absurd (omega arith)) (λ some more. absurd (omega arith)) (λ some last. refl))
    ] in (
      now.0 ++ (before ++ this),
      has_written_append _ _ _ _ _ _ now.1 (c.in_ok-write.ensures.writes now.1.plain refl),
      append_assoc now.0 (before ++ this) (left_text (i + 1) ns)
          ∙ ap (λ l. now.0 ++ l) (append_assoc before this (left_text (i + 1) ns) ∙ sym next) ∙ now.2,
    )

pub returns : goal.returns
returns g c =
    λ plain _.
    let now = c.loop-i.invariant plain in
    let end = left_text-end c.args.lengths.now c.loop-i.i c.loop-i-test.false in
    has_written_of_eq _ _ _ _ _ (sym (append-nil now.0) ∙ ap (λ l. now.0 ++ l) (sym end) ∙ now.2) now.1
