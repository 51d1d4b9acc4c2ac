use Rattle.std.proofs.Common.{◌≡◌, ◌∙◌, ℕ, ◌+◌, true, refl, ap, sym}
use Rattle.tia_chip.proofs.ThereLemmas.{way-dot, way-late}
use Rattle.tia_chip.proofs.WaitingLemmas.{waiting-of}
use Rattle.tia_chip.specs.Private.Late.{acts_late, gives_way, written_of}
use Rattle.tia_chip.specs.Registers.{delay_of, register_of}
use Rattle.tia_chip.specs.declared.register.Register.{Register}
use Rattle.tia_chip.specs.Private.Owed.{settled}
use Rattle.tia_chip.specs.declared.state.TiaState.{TiaState}
use Rattle.tia_chip.proofs.chip.Chip.write_late.Goals as goal

pub returns-clause-state : goal.returns-clause-state
returns-clause-state c = λ h.
    let t = settled c.self.inside.owed c.self.inside.state in
    let lag = c.args.lag in
    let v = c.args.value in
    let r = c.from_number-register.result in
    let way : gives_way t.waiting (written_of t) ≡ true =
    ap (λ (x : TiaState). gives_way x.waiting (written_of x)) c.self.view_is ∙ (sym c.gives_way.ensures ∙ c.if-not-gives_way.false)
    in
    let late : acts_late (register_of c.args.number) ≡ true =
    ap (λ (x : Register). acts_late x) (sym c.from_number-register.ensures) ∙ (sym c.acts_late.ensures ∙ c.if-not-acts_late.false)
    in
    let w : waiting-of r v (lag + c.delay.result) ≡ waiting-of (register_of c.args.number) v (lag + delay_of (register_of c.args.number)) =
    ap (λ (d : ℕ). waiting-of r v (lag + d)) c.delay.ensures.value ∙ ap (λ (x : Register). waiting-of x v (lag + delay_of x)) c.from_number-register.ensures
    in
    rw (← c.self.view_is) (way-late t.waiting lag c.args.number v t (waiting-of r v (lag + c.delay.result)) refl way late w)

pub returns-clause-pixels : goal.returns-clause-pixels
returns-clause-pixels c = λ h n l.
    let t = settled c.self.inside.owed c.self.inside.state in
    let lag = c.args.lag in
    let way : gives_way t.waiting (written_of t) ≡ true =
    ap (λ (x : TiaState). gives_way x.waiting (written_of x)) c.self.view_is ∙ (sym c.gives_way.ensures ∙ c.if-not-gives_way.false)
    in
    rw (← c.self.view_is) (way-dot t.waiting n lag c.delay.result t (waiting-of c.from_number-register.result c.args.value (lag + c.delay.result)) refl way l refl)
