use Rattle.std.proofs.Common.{◌≡◌, ◌∙◌, true, ap, sym}
use Rattle.std.specs.Fn.{iterate}
use Rattle.tia_chip.proofs.ColourClocks.{written-ahead}
use Rattle.tia_chip.specs.Clock.{after_clock}
use Rattle.tia_chip.specs.Private.Late.{is_colour}
use Rattle.tia_chip.specs.Registers.{register_of}
use Rattle.tia_chip.specs.declared.register.Register.{Register}
use Rattle.tia_chip.specs.declared.state.TiaState.{TiaState}
use Rattle.tia_chip.proofs.tia.Tia.write.Goals as goal

pub returns-then-is_free-clause-value : goal.returns-then-is_free-clause-value
returns-then-is_free-clause-value c =
    let n = c.self.inside.behind in
    let colour : is_colour (register_of c.args.number) ≡ true =
    ap (λ (r : Register). is_colour r) (sym c.from_number.ensures) ∙ (sym c.is_colour.ensures ∙ c.if-is_colour.true)
    in
    rw (← c.self.view_is)
    (ap (λ (x : TiaState). iterate after_clock n x) c.write.ensures.value
    ∙ written-ahead n c.args.number c.args.value c.self.inside.chip colour (sym c.is_free.ensures ∙ c.if-is_free.true))
