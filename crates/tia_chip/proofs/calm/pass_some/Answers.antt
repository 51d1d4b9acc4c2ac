use Rattle.std.proofs.Common.{subst, sym}
use Rattle.tia_chip.proofs.OwedLemmas.{made-picture}
use Rattle.tia_chip.proofs.ShownLemmas.{sink-unkept}
use Rattle.tia_chip.specs.Calm.{IsCalmInPicture}
use Rattle.tia_chip.specs.Private.Owed.{settled}
use Rattle.tia_chip.specs.declared.state.TiaState.{TiaState}
use Rattle.tia_chip.proofs.calm.pass_some.Goals as goal

pub returns-then-latches_none-clause-sink : goal.returns-then-latches_none-clause-sink
returns-then-latches_none-clause-sink g c =
    sym (sink-unkept g.S.Paint.drawn c.args.sink.now c.args.most (settled c.args.owed.now c.args.tia.now) (c.keeps.ensures c.if-not-keeps.true))

pub pass_picture-requires-clause-calm : goal.pass_picture-requires-clause-calm
pass_picture-requires-clause-calm g c =
    let owed = c.args.owed.now in
    subst (λ (x : TiaState). IsCalmInPicture x) (sym c.settle.ensures.value) (made-picture owed.steps owed.looked c.args.tia.now c.requires.calm)
