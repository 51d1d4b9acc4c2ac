use Rattle.std.proofs.Common.{◌∙◌, ◌+◌, ap, sym, arith}
use Rattle.tia_chip.proofs.ClocksLemmas.{iterate-add}
use Rattle.tia_chip.specs.Clock.{after_clock, at_pixel}
use Rattle.tia_chip.specs.Colour.{pixel_of}
use Rattle.tia_chip.specs.Write.{effect_of, tia_after_write}
use Rattle.tia_chip.specs.declared.state.TiaState.{TiaState}
use Rattle.tia_chip.proofs.tia.Tia.write_late.Goals as goal

pub returns-clause-state : goal.returns-clause-state
returns-clause-state c = λ h.
    let n = c.self.inside.behind in
    let both = iterate-add after_clock n c.args.lag in
    rw (← c.self.view_is) (sym (both c.write_late.new.self)
    ∙ (c.write_late.ensures.state h ∙ ap (λ (x : TiaState). tia_after_write x c.args.number c.args.value) (both c.self.inside.chip)))

pub returns-clause-pixels : goal.returns-clause-pixels
returns-clause-pixels c = λ h k l.
    let n = c.self.inside.behind in
    let both = iterate-add after_clock n k in
    rw (← c.self.view_is) (sym (ap (λ (x : TiaState). pixel_of (at_pixel x)) (both c.write_late.new.self))
    ∙ (c.write_late.ensures.pixels h (n + k) (omega arith) ∙ ap (λ (x : TiaState). pixel_of (at_pixel x)) (both c.self.inside.chip)))

pub returns-clause-effect : goal.returns-clause-effect
returns-clause-effect c = λ h.
    let both = iterate-add after_clock c.self.inside.behind c.args.lag c.self.inside.chip in
    rw (← c.self.view_is) (sym (ap (λ (x : TiaState). effect_of x c.args.number c.args.value) both) ∙ c.write_late.ensures.effect h)
