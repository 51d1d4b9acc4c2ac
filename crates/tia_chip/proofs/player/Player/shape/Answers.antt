use Rattle.std.proofs.Common.{◌≡◌, ◌∙◌, ℕ, ◌+◌, ◌*◌, ◌-◌, ◌<◌, ◌≤◌, ◌==◌, ◌&&◌, ◌||◌, inl, inr, Bool, ap, arith, if◌then◌else◌}
use Rattle.std.proofs.lemmas.Bool.{cases_lt}
use Rattle.std.proofs.lemmas.Bool.Decides.{nat_tests}
use Rattle.std.specs.Prelude.{nat_le, nat_lt}
use Rattle.tia_chip.proofs.WordLemmas.{one-more}
use Rattle.tia_chip.specs.Bits.{has_bit}
use Rattle.tia_chip.specs.Player.{graphic_of, width_of}
use Rattle.tia_chip.specs.Quiet.{bit_of_age, first_drawn, shows_one_at_age}
use Rattle.tia_chip.proofs.player.Player.shape.Goals as goal

pub loop-age-preserved : goal.loop-age-preserved
loop-age-preserved c =
    let p = c.args.self.now in
    let k = c.loop-age.age in
    let held = c.loop-age.invariant in
    let shown : ℕ → Bool = λ a. shows_one_at_age p (width_of p.nusiz) a in
    let width = c.width-width.ensures.value in
    record {
      first = omega arith;
      most = omega arith;
      bits = λ a. c.with_pixel-shape.ensures a
          ∙ (ap (λ (b : Bool). b || (c.shows_at.result && (a == k))) (held.bits a)
          ∙ (ap (λ (b : Bool). (nat_lt a k && shown a) || (b && (a == k))) (c.shows_at.ensures ∙ ap (λ (w : ℕ). shows_one_at_age p w k) width) ∙ one-more a k shown));
    }

-- no bit is drawn past the last
within : (first end age last : ℕ) (bit : Bool) → age < last → (nat_lt age last && (nat_le first age && nat_lt age end && bit)) ≡ (nat_le first age && nat_lt age end && bit)
within first end age last bit l = grind (arith, nat_tests)

past : (first end age last : ℕ) (bit : Bool) → end ≤ last → last ≤ age → (nat_lt age last && (nat_le first age && nat_lt age end && bit)) ≡ (nat_le first age && nat_lt age end && bit)
past first end age last bit e l = grind (arith, nat_tests)

pub returns : goal.returns
returns c =
    let p = c.args.self.now in
    let w = width_of p.nusiz in
    let last = c.loop-age.age in
    let held = c.loop-age.invariant in
    let end_is : c.first_drawn.result ≡ first_drawn w = c.first_drawn.ensures.value ∙ ap first_drawn c.width-width.ensures.value in
    let end : first_drawn w + 8 * w ≤ last = omega (arith, end_is, c.width-width.ensures.value, c.loop-age-test.false) in
    λ age. let bit = has_bit (graphic_of p) (if has_bit p.refp 3 then bit_of_age w age else 7 - bit_of_age w age) in
    held.bits age ∙ elim (cases_lt age last) [
      | inl l ↦ within (first_drawn w) (first_drawn w + 8 * w) age last bit l
      | inr l ↦ past (first_drawn w) (first_drawn w + 8 * w) age last bit end l
    ]
