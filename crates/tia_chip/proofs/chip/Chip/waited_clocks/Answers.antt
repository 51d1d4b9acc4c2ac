use Rattle.std.proofs.Common.{◌≡◌, ◌∙◌, ◌-◌, Some, ap, arith}
use Rattle.tia_chip.proofs.WaitingLemmas.{waited-sink, waited-state}
use Rattle.tia_chip.specs.Private.Owed.{settled}
use Rattle.tia_chip.specs.declared.state.TiaState.{TiaState}
use Rattle.tia_chip.proofs.chip.Chip.waited_clocks.Goals as goal

pub returns-clause-state : goal.returns-clause-state
returns-clause-state g c =
    let t = settled c.self.inside.owed c.self.inside.state in
    let w = c.args.waiting in
    let n = c.free_clocks-passed.result in
    let waits : t.waiting ≡ Some w = ap (λ (x : TiaState). x.waiting) c.self.view_is ∙ c.requires.waiting in
    rw (← c.self.view_is)
    (ap (λ (x : TiaState). record x { waiting = Some (record w { clocks = w.clocks - n }) }) (c.self-2.view_is ∙ c.free_clocks-passed.ensures.state)
    ∙ waited-state t w n waits (omega arith))

pub returns-clause-sink : goal.returns-clause-sink
returns-clause-sink g c =
    let t = settled c.self.inside.owed c.self.inside.state in
    let w = c.args.waiting in
    let waits : t.waiting ≡ Some w = ap (λ (x : TiaState). x.waiting) c.self.view_is ∙ c.requires.waiting in
    rw (← c.self.view_is)
    (c.free_clocks-passed.ensures.sink ∙ waited-sink g.S.Paint.drawn c.args.sink.now t w c.free_clocks-passed.result waits (omega arith))
