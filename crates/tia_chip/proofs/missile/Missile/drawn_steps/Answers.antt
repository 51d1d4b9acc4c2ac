use Rattle.std.proofs.Common.{◌∙◌, ℕ, ◌%◌, ◌&&◌, not, Bool, ap, sym}
use Rattle.std.specs.Prelude.{nat_lt}
use Rattle.tia_chip.proofs.QuietSteps.{none-lit}
use Rattle.tia_chip.specs.Missile.{size_of}
use Rattle.tia_chip.specs.Quiet.{age_of, counter_after, is_dot_of_age, missile_mask}
use Rattle.tia_chip.proofs.missile.Missile.drawn_steps.Goals as goal

pub returns-then-is_locked : goal.returns-then-is_locked
returns-then-is_locked c =
    let m = c.args.self.now in
    λ k. none-lit c.args.count k (missile_mask c.args.nusiz m (counter_after k m.counter))
    (ap (λ (b : Bool). not b && is_dot_of_age (size_of c.args.nusiz) (age_of (c.args.nusiz % 8) (counter_after k m.counter))) (sym c.is_locked.ensures ∙ c.if-is_locked.true))

pub returns-else-is_locked : goal.returns-else-is_locked
returns-else-is_locked c =
    let m = c.args.self.now in
    λ k. let age = age_of (c.args.nusiz % 8) (counter_after k m.counter) in
    c.lit_steps.ensures k
    ∙ (ap (λ (b : Bool). nat_lt k c.args.count && b) (c.dot_shape.ensures age ∙ ap (λ (n : ℕ). is_dot_of_age n age) c.size.ensures.value)
    ∙ ap (λ (b : Bool). nat_lt k c.args.count && (not b && is_dot_of_age (size_of c.args.nusiz) age)) (sym (sym c.is_locked.ensures ∙ c.if-is_locked.false)))
