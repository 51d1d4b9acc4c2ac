use Rattle.std.proofs.Common.{◌≡◌, ℕ, arith, subst}
use Rattle.replay_segments.specs.Segments.{start_of, from_of}
use Rattle.replay_segments.specs.Verdicts.{IsJudged}
use Rattle.replay_segments.proofs.OneVerdict.{IsJudged-once}
use Rattle.replay_segments.proofs.laws.law_of_one_outcome.Goals as goal

pub returns : goal.returns
returns c m cuts keep i v w movie (len, ends, one) (len', ends', two) =
    let same : len' ≡ len = omega arith in
    let there = subst (λ (x : ℕ). IsJudged m keep (start_of m cuts i) (from_of m cuts i) x w) same two in
    IsJudged-once m (start_of m cuts i) (from_of m cuts i) keep len v w movie one there
