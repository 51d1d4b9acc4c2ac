use Rattle.std.proofs.Common.{◌∙◌, ap, false, sym}
use Rattle.tia_chip.proofs.OwedLemmas.{blank-leaves, blank-stays}
use Rattle.tia_chip.specs.Private.Owed.{made_steps}
use Rattle.tia_chip.specs.declared.state.TiaState.{TiaState}
use Rattle.tia_chip.proofs.calm.pass_blank.Goals as goal

pub returns-then-leaves-clause-value : goal.returns-then-leaves-clause-value
returns-then-leaves-clause-value c =
    let owed = c.args.owed.now in
    ap (λ (x : TiaState). made_steps owed.steps false x) c.forget_seen.ensures.value
    ∙ blank-leaves owed.steps c.args.count owed.looked c.args.tia.now c.requires.some c.requires.rest c.requires.end (sym c.leaves_blank-leaves.ensures ∙ c.if-leaves.true)

pub returns-else-leaves-clause-value : goal.returns-else-leaves-clause-value
returns-else-leaves-clause-value c =
    let owed = c.args.owed.now in
    blank-stays owed.steps c.args.count owed.looked c.args.tia.now c.requires.some c.requires.rest c.requires.end (sym c.leaves_blank-leaves.ensures ∙ c.if-leaves.false)
