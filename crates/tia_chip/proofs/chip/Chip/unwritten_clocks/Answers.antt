use Rattle.std.proofs.Common.{◌≡◌, ◌∙◌, true, Some, ap}
use Rattle.tia_chip.proofs.ThereLemmas.{there-sink, there-state}
use Rattle.tia_chip.specs.Private.Late.{is_there, waits_after, written_of}
use Rattle.tia_chip.specs.Private.Owed.{settled}
use Rattle.tia_chip.specs.declared.state.TiaState.{TiaState}
use Rattle.tia_chip.proofs.chip.Chip.unwritten_clocks.Goals as goal

pub returns-clause-state : goal.returns-clause-state
returns-clause-state g c =
    let t = settled c.self.inside.owed c.self.inside.state in
    let w = c.args.waiting in
    let n = c.free_clocks-passed.result in
    let waits : t.waiting ≡ Some w = ap (λ (x : TiaState). x.waiting) c.self.view_is ∙ c.requires.waiting in
    let there : is_there w.register w.value (written_of t) ≡ true = ap (λ (x : TiaState). is_there w.register w.value (written_of x)) c.self.view_is ∙ c.requires.there in
    rw (← c.self.view_is)
    (ap (λ (o : _). record (settled c.self-2.inside.owed c.self-2.inside.state) { waiting = o }) c.waits_after-self-inside.ensures
    ∙ (ap (λ (x : TiaState). record x { waiting = waits_after n w }) (c.self-2.view_is ∙ c.free_clocks-passed.ensures.state)
    ∙ there-state t w n waits there))

pub returns-clause-sink : goal.returns-clause-sink
returns-clause-sink g c =
    let t = settled c.self.inside.owed c.self.inside.state in
    let w = c.args.waiting in
    let waits : t.waiting ≡ Some w = ap (λ (x : TiaState). x.waiting) c.self.view_is ∙ c.requires.waiting in
    let there : is_there w.register w.value (written_of t) ≡ true = ap (λ (x : TiaState). is_there w.register w.value (written_of x)) c.self.view_is ∙ c.requires.there in
    rw (← c.self.view_is)
    (c.free_clocks-passed.ensures.sink ∙ there-sink g.S.Paint.drawn c.args.sink.now t w c.free_clocks-passed.result waits there)
