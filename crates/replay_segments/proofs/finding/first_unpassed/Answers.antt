use Rattle.std.proofs.Common.{ℕ, below_more}
use Rattle.replay_segments.specs.Private.Finding.{IsPassedAt}
use Rattle.replay_segments.proofs.FindLemmas.{found}
use Rattle.replay_segments.proofs.finding.first_unpassed.Goals as goal

pub loop-number-preserved : goal.loop-number-preserved
loop-number-preserved c =
    let P : ℕ → Type 0 = λ i. IsPassedAt c.args.pieces.now c.loop-number.number i in
    below_more (λ (k : ℕ). (i : ℕ) × IsPassedAt c.args.pieces.now k i) c.loop-number.number c.loop-number.invariant
    (found P c.find_passed.result c.if-is_none.ensures c.find_passed.ensures.some)
