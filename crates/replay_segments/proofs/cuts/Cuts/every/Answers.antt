use Rattle.std.proofs.Common.{length, arith, subst}
use Rattle.movie_file.specs.Format.{most_checkpoints}
use Rattle.replay_segments.specs.Cuts.{IsEvery}
use Rattle.replay_segments.proofs.CutLemmas.{AreCuts-every, IsEvery-each, AreCuts-more}
use Rattle.replay_segments.proofs.cuts.Cuts.every.Goals as goal

pub invariant_of-result : goal.invariant_of-result
invariant_of-result c =
    AreCuts-more (length c.args.movie.now.checkpoints) most_checkpoints c.loop-i.numbers.items c.checkpoints.ensures.lawful.few_checkpoints
    (AreCuts-every c.get-k.result (length c.args.movie.now.checkpoints) c.checkpoints.result c.loop-i.numbers.items (omega arith)
    c.checkpoints.ensures.value (omega (arith, c.loop-i.numbers.ok.0)) c.loop-i.invariant.each)

pub returns-clause-every : goal.returns-clause-every
returns-clause-every c =
    subst (λ k. IsEvery k (length c.args.movie.now.checkpoints) c.loop-i.numbers.items) c.get-k.ensures.value
    (IsEvery-each c.get-k.result (length c.args.movie.now.checkpoints) c.checkpoints.result c.loop-i.numbers.items (omega arith)
    c.checkpoints.ensures.value (omega (arith, c.loop-i.numbers.ok.0)) c.loop-i.invariant.each)

pub returns-clause-fit : goal.returns-clause-fit
returns-clause-fit c =
    AreCuts-every c.get-k.result (length c.args.movie.now.checkpoints) c.checkpoints.result c.loop-i.numbers.items (omega arith)
    c.checkpoints.ensures.value (omega (arith, c.loop-i.numbers.ok.0)) c.loop-i.invariant.each
