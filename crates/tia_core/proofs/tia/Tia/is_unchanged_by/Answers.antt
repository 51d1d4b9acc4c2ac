use Rattle.tia_core.proofs.ClockLemmas.{written-after-clocks, effect-after-clocks}
use Rattle.tia_core.proofs.tia.Tia.is_unchanged_by.Goals as goal

pub returns-clause-state : goal.returns-clause-state
returns-clause-state c = λ yes n.
    rw (← c.self.view_is) (written-after-clocks n _ c.args.number c.args.value c.self.invariant.0.clock (c.is_unchanged.ensures.fields yes))

pub returns-clause-effect : goal.returns-clause-effect
returns-clause-effect c = λ yes n.
    rw (← c.self.view_is) (effect-after-clocks n _ c.args.number c.args.value c.self.invariant.0.clock (c.is_unchanged.ensures.effect yes))
