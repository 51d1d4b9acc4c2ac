use Rattle.std.proofs.Common.{◌∙◌, ap}
use Rattle.tia_chip.proofs.OwedReads.{read-made, read-moves}
use Rattle.tia_chip.specs.Motion.{any_moves}
use Rattle.tia_chip.specs.Private.Owed.{made_steps}
use Rattle.tia_chip.proofs.chip.Chip.read.Goals as goal

pub invariant_of-self : goal.invariant_of-self
invariant_of-self c = (
  c.latch_button.ensures.range,
  λ some. ap any_moves c.latch_button.ensures.value ∙ (read-moves c.args.number c.self.inside.state ∙ c.self.invariant.1 some),
)

pub returns-clause-state : goal.returns-clause-state
returns-clause-state c =
    let owed = c.self.inside.owed in
    rw (← c.self.view_is)
    (ap (made_steps owed.steps owed.looked) c.latch_button.ensures.value ∙ read-made c.args.number owed.steps owed.looked c.self.inside.state)
