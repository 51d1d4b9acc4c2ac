use Rattle.std.proofs.Common.{◌∙◌, ℕ, ◌+◌, ◌-◌, ap, sym, arith}
use Rattle.tia_chip.proofs.LitSteps.{lit-on}
use Rattle.tia_chip.proofs.Strides.{NoneBegins}
use Rattle.tia_chip.specs.Bits.{has_bit}
use Rattle.tia_chip.specs.Counter.{begins_copy}
use Rattle.tia_chip.specs.Quiet.{age_of, counter_after}
use Rattle.tia_chip.proofs.copies.lit_steps.Goals as goal

pub loop-passed-preserved : goal.loop-passed-preserved
loop-passed-preserved c =
    let mode = c.args.mode in
    let n = c.loop-passed.passed in
    let r = c.min-steps.result in
    let now = c.counter_after-now.ensures.value in
    let held = c.loop-passed.invariant in
    let none : NoneBegins mode (counter_after n c.args.counter) (r - 1) =
    λ k l. ap (λ (x : ℕ). begins_copy mode (counter_after k x)) (sym now) ∙ c.steps_to_beginning.ensures.none k (omega arith)
    in
    record {
      most = omega arith;
      bits = lit-on c.args.shape mode c.args.counter c.loop-passed.lit c.bits_from.result c.first_bits-word.result c.bits_at-lit.result n r
          c.requires.mode c.requires.counter (omega arith) none held.bits
          (λ k. c.bits_from.ensures k ∙ ap (λ (a : ℕ). has_bit c.args.shape (a + k)) (c.age.ensures.value ∙ ap (age_of mode) now))
          c.first_bits-word.ensures c.bits_at-lit.ensures;
    }
