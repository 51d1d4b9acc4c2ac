use Rattle.std.proofs.Common.{◌∙◌, sym}
use Rattle.tia_chip.proofs.ShownLemmas.{sink-unkept, unlatched-some, words-latch_nothing}
use Rattle.tia_chip.proofs.calm.line_after.Goals as goal

pub returns-then-latches_nothing-clause-value : goal.returns-then-latches_nothing-clause-value
returns-then-latches_nothing-clause-value g c =
    c.unlatched_line.ensures
    ∙ unlatched-some c.args.count c.args.tia.now c.requires.some c.requires.calm c.requires.end
    (words-latch_nothing c.args.count c.args.tia.now c.args.lit.now c.requires.calm c.requires.end c.requires.lit (c.latches_nothing.ensures c.if-latches_nothing.true))

pub returns-then-latches_nothing-clause-sink : goal.returns-then-latches_nothing-clause-sink
returns-then-latches_nothing-clause-sink g c =
    sym (sink-unkept g.S.Paint.drawn c.args.sink.now c.args.count c.args.tia.now (c.keeps.ensures c.if-not-keeps.true))
