use Rattle.std.proofs.Common.{◌≡◌, ◌∙◌, sym, refl, IsTrue}
use Rattle.std.proofs.lemmas.Option.{slice_get_read}
use Rattle.replay_segments.specs.Pieces.{PieceData, passed}
use Rattle.replay_segments.proofs.ListLemmas.{each-below}
use Rattle.replay_segments.proofs.finding.find_passed.Goals as goal
use Rattle.replay_segments.proofs.finding.find_passed.Goals.{else-number-via-then-number+else-passed}
use Rattle.replay_segments.proofs.finding.find_passed.Goals.{else-number-via-else-number}

pub returns-then-passed-clause-some : goal.returns-then-passed-clause-some
returns-then-passed-clause-some c =
    let at = slice_get_read c.args.pieces.now _ c.loop-i.i c.index-pieces-i.result refl c.loop-i-test.true c.index-pieces-i.is in
    let ok : IsTrue (passed c.index-pieces-i.result.outcome) = sym c.passed.ensures ∙ c.if-passed.true in
    (c.index-pieces-i.result, at, sym c.number.ensures.value ∙ c.if-number.true, ok, c.number.ensures.lawful)

pub loop-i-preserved : goal.loop-i-preserved
loop-i-preserved c =
    let at = slice_get_read c.args.pieces.now _ c.loop-i.i c.index-pieces-i.result refl c.loop-i-test.true c.index-pieces-i.is in
    each-below (λ (p : PieceData). p.number ≡ c.args.number → IsTrue (passed p.outcome) → ⊥) c.args.pieces.now c.loop-i.i c.index-pieces-i.result at
    (elim c.else-number.branch [
      | else-number-via-then-number+else-passed w ↦ λ is ok. let same = w.passed.ensures in let no = w.if-passed.false in cc
      | else-number-via-else-number w ↦ λ is ok. w.if-number.false (c.number.ensures.value ∙ is)
    ])
    c.loop-i.invariant
