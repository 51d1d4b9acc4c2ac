use Rattle.std.proofs.Common.{◌+◌, ◌∙◌, sym, refl, subst}
use Rattle.std.proofs.lemmas.Option.{slice_get_read}
use Rattle.refused.specs.declared.Refused.{Refused}
use Rattle.replay_segments.specs.declared.gathering.Missing.{Missing}
use Rattle.replay_segments.proofs.FindLemmas.{IsAnswerBelow, IsAnswerBelow-other, IsAnswerBelow-may}
use Rattle.replay_segments.proofs.FindLemmas.{IsAnswer-whole}
use Rattle.replay_segments.proofs.finding.answer_of.Goals as goal
use Rattle.replay_segments.proofs.finding.answer_of.Goals.{then-number+in_default, else-number}

pub returns-in-Some : goal.returns-in-Some
returns-in-Some c =
    let at = slice_get_read c.args.pieces.now _ c.loop-i.i c.index-pieces-i.result refl c.loop-i-test.true c.index-pieces-i.is in (
      c.loop-i.i,
      c.index-pieces-i.result,
      at,
      sym c.number.ensures.value ∙ c.if-number.true,
      c.in-Some.ensures.bad.0,
      c.in-Some.ensures.bad.1,
      c.number.ensures.lawful,
    )

pub loop-i-preserved : goal.loop-i-preserved
loop-i-preserved c =
    let at = slice_get_read c.args.pieces.now _ c.loop-i.i c.index-pieces-i.result refl c.loop-i-test.true c.index-pieces-i.is in
    elim c.if-number.branch [
      | then-number+in_default w ↦
          subst (λ (a : Refused Missing). IsAnswerBelow c.args.pieces.now c.args.number (c.loop-i.i + 1) a) (sym w.answer-is)
          (IsAnswerBelow-may c.args.pieces.now c.args.number c.loop-i.i c.loop-i.answer c.index-pieces-i.result c.loop-i.invariant at
          (sym c.number.ensures.value ∙ w.if-number.true) w.in_default.ensures.good)
      | else-number w ↦
          subst (λ (a : Refused Missing). IsAnswerBelow c.args.pieces.now c.args.number (c.loop-i.i + 1) a) (sym w.answer-is)
          (IsAnswerBelow-other c.args.pieces.now c.args.number c.loop-i.i c.loop-i.answer c.index-pieces-i.result c.loop-i.invariant at
          (λ is. w.if-number.false (c.number.ensures.value ∙ is)))
    ]

pub returns : goal.returns
returns c = IsAnswer-whole c.args.pieces.now c.args.number c.loop-i.i c.loop-i.answer c.loop-i-test.false c.requires c.loop-i.invariant
