use Rattle.std.proofs.Common.{◌≡◌, ◌∙◌, ◌+◌, ◌-◌, ◌%◌, ℕ, false, ap, arith, subst, sym}
use Rattle.tia_chip.proofs.OwedLemmas.{made-add}
use Rattle.tia_chip.proofs.OwedRounds.{rounds-left}
use Rattle.tia_chip.specs.Motion.{any_moves}
use Rattle.tia_chip.specs.Private.Owed.{AreQuiet, made_steps}
use Rattle.tia_chip.specs.declared.state.TiaState.{TiaState}
use Rattle.tia_chip.proofs.owed.make_rounds.Goals as goal

pub returns-then-not-are_quiet-clause-value : goal.returns-then-not-are_quiet-clause-value
returns-then-not-are_quiet-clause-value c =
    let t = c.args.tia.now in
    let n = c.args.steps in
    let all : 160 + (n - 160) ≡ n = omega arith in
    ap (made_steps (n - 160) false) c.pass_objects.ensures.value ∙ (made-add 160 (n - 160) t ∙ ap (λ (k : ℕ). made_steps k false t) all)

pub returns-clause-value : goal.returns-clause-value
returns-clause-value c =
    let t = c.args.tia.now in
    let n = c.args.steps in
    let first = c.pass_objects.ensures.value in
    ap (made_steps ((n - 320) % 160) false) (c.pass_objects-2.ensures.value ∙ ap (made_steps 160 false) first)
    ∙ rounds-left n t (omega arith) (subst (λ (x : TiaState). AreQuiet x) first (c.are_quiet.ensures c.if-not-are_quiet.false))
    (sym (ap any_moves first) ∙ c.pass_objects.ensures.still)
