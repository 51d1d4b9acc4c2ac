use Rattle.std.proofs.Common.{rules, ◌∙◌}
use Rattle.tia_core.proofs.MaskFits.{fit-placed}
use Rattle.tia_core.proofs.Stretches.{stretch-wraps, stretch-stays, stretch-sink}
use Rattle.tia_core.proofs.tia.Tia.pass_visible.Goals as goal

pub invariant_of-self : goal.invariant_of-self
invariant_of-self g c = (search rules, fit-placed c.self.inside.fields _ _ _ _ c.collisions_after-self-inside.ensures.fit)

pub invariant_of-self-else-to : goal.invariant_of-self-else-to
invariant_of-self-else-to g c = (search rules, fit-placed c.self.inside.fields _ _ _ _ c.collisions_after-self-inside.ensures.fit)

pub returns-then-to-clause-value : goal.returns-then-to-clause-value
returns-then-to-clause-value g c =
    let from = rw (← c.self.view_is) at c.requires.from in
    let to = rw (← c.self.view_is) at c.requires.to in
    rw (← c.self.view_is) (stretch-wraps _ c.args.count _ from c.self.invariant.0.clock to c.collisions_after-self-inside.ensures.value c.if-to.true)

pub returns-then-to-clause-sink : goal.returns-then-to-clause-sink
returns-then-to-clause-sink g c =
    let from = rw (← c.self.view_is) at c.requires.from in
    let to = rw (← c.self.view_is) at c.requires.to in
    rw (← c.self.view_is) (c.paint.ensures.sink ∙ stretch-sink g.S.Paint.drawn c.args.sink.now _ c.args.count from c.self.invariant.0.clock to)

pub returns-else-to-clause-value : goal.returns-else-to-clause-value
returns-else-to-clause-value g c =
    let from = rw (← c.self.view_is) at c.requires.from in
    let to = rw (← c.self.view_is) at c.requires.to in
    rw (← c.self.view_is) (stretch-stays _ c.args.count _ from c.self.invariant.0.clock to c.collisions_after-self-inside.ensures.value c.if-to.false)

pub returns-else-to-clause-sink : goal.returns-else-to-clause-sink
returns-else-to-clause-sink g c =
    let from = rw (← c.self.view_is) at c.requires.from in
    let to = rw (← c.self.view_is) at c.requires.to in
    rw (← c.self.view_is) (c.paint.ensures.sink ∙ stretch-sink g.S.Paint.drawn c.args.sink.now _ c.args.count from c.self.invariant.0.clock to)
