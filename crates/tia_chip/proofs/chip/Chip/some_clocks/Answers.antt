use Rattle.std.proofs.Common.{◌∙◌, ap, sym}
use Rattle.std.specs.Fn.{iterate}
use Rattle.tia_chip.proofs.OwedLemmas.{made-written}
use Rattle.tia_chip.proofs.WaitingLemmas.{acts-now, acts-sink, acts-state}
use Rattle.tia_chip.specs.Clock.{after_clock}
use Rattle.tia_chip.specs.Clocks.{sink_after_clocks}
use Rattle.tia_chip.specs.Private.Late.{Written, is_there}
use Rattle.tia_chip.specs.Private.Owed.{settled}
use Rattle.tia_chip.specs.declared.state.TiaState.{TiaState}
use Rattle.tia_chip.proofs.chip.Chip.some_clocks.Goals as goal

pub returns-then-waiting-eq0-clause-state : goal.returns-then-waiting-eq0-clause-state
returns-then-waiting-eq0-clause-state g c =
    let t = settled c.self.inside.owed c.self.inside.state in
    let n = c.free_clocks-then-waiting-eq0.result in
    rw (← c.self.view_is)
    (c.free_clocks-then-waiting-eq0.ensures.state
    ∙ (ap (λ (x : TiaState). iterate after_clock n x) (c.act_owing.ensures.value ∙ acts-now t c.in-Some.waiting c.in-Some.is c.if-waiting-eq0.true)
    ∙ acts-state t c.in-Some.waiting n c.in-Some.is c.if-waiting-eq0.true c.free_clocks-then-waiting-eq0.ensures.some))

pub returns-then-waiting-eq0-clause-sink : goal.returns-then-waiting-eq0-clause-sink
returns-then-waiting-eq0-clause-sink g c =
    let t = settled c.self.inside.owed c.self.inside.state in
    let n = c.free_clocks-then-waiting-eq0.result in
    let drawn = g.S.Paint.drawn in
    rw (← c.self.view_is)
    (c.free_clocks-then-waiting-eq0.ensures.sink
    ∙ (ap (λ (x : TiaState). sink_after_clocks drawn c.args.sink.now n x) (c.act_owing.ensures.value ∙ acts-now t c.in-Some.waiting c.in-Some.is c.if-waiting-eq0.true)
    ∙ acts-sink drawn c.args.sink.now t c.in-Some.waiting n c.in-Some.is c.if-waiting-eq0.true c.free_clocks-then-waiting-eq0.ensures.some))

pub unwritten_clocks-requires-clause-there : goal.unwritten_clocks-requires-clause-there
unwritten_clocks-requires-clause-there g c =
    let owed = c.self.inside.owed in
    let w = c.in-Some.waiting in
    rw (← c.self.view_is)
    (ap (λ (x : Written). is_there w.register w.value x) (made-written owed.steps owed.looked c.self.inside.state)
    ∙ (sym c.is_there.ensures ∙ c.if-is_there.true))
