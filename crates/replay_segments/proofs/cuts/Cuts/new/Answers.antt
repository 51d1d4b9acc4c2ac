use Rattle.std.proofs.Common.{length, refl, arith}
use Rattle.std.proofs.lemmas.Option.{slice_get_read}
use Rattle.movie_file.specs.Format.{most_checkpoints}
use Rattle.replay_segments.proofs.CutLemmas.{AreCuts-more, AreCutsBelow-whole}
use Rattle.replay_segments.proofs.cuts.Cuts.new.Goals as goal

pub loop-i-preserved : goal.loop-i-preserved
loop-i-preserved c = grind (arith, slice_get_read)

pub invariant_of-result : goal.invariant_of-result
invariant_of-result c =
    AreCuts-more (length c.args.movie.now.checkpoints) most_checkpoints c.args.numbers.items c.checkpoints-most.ensures.lawful.few_checkpoints
    (AreCutsBelow-whole (length c.args.movie.now.checkpoints) c.args.numbers.items c.loop-i.i c.loop-i.last
    (omega (arith, c.args.numbers.ok.0, c.len-i-end.ensures)) c.loop-i.invariant)

pub returns-clause-fit : goal.returns-clause-fit
returns-clause-fit c = (
  λ _. AreCutsBelow-whole (length c.args.movie.now.checkpoints) c.args.numbers.items c.loop-i.i c.loop-i.last
      (omega (arith, c.args.numbers.ok.0, c.len-i-end.ensures)) c.loop-i.invariant,
  λ _. refl,
)
