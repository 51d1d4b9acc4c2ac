use Rattle.std.proofs.Common.{sym}
use Rattle.tia_chip.proofs.ClocksLemmas.{iterate-add}
use Rattle.tia_chip.proofs.ShownLemmas.{sink-unkept}
use Rattle.tia_chip.specs.Clock.{after_clock}
use Rattle.tia_chip.proofs.tia.Tia.clocks.Goals as goal

pub returns-then-count-self-clause-state : goal.returns-then-count-self-clause-state
returns-then-count-self-clause-state g c = rw (← c.self.view_is) (iterate-add after_clock c.self.inside.behind c.args.count c.self.inside.chip)

pub returns-then-count-self-clause-sink : goal.returns-then-count-self-clause-sink
returns-then-count-self-clause-sink g c =
    sym (sink-unkept g.S.Paint.drawn c.args.sink.now c.args.count c.args.self.now (c.keeps.ensures c.if-not-keeps.true))
