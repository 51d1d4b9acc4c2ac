use Rattle.std.proofs.Common.{◌≡◌, ◌∙◌, ℕ, ◌+◌, ◌-◌, ◌/◌, ◌^◌, ◌≤◌, ◌&&◌, inl, inr, Bool, false, arith, sym, ap}
use Rattle.std.proofs.lemmas.Bool.{and_left, and_right, cases_lt, lt-ltb}
use Rattle.std.specs.Prelude.{nat_lt}
use Rattle.tia_core.proofs.MaskWordLemmas.{bit-high, bit-zero}
use Rattle.tia_chip.proofs.FieldParts.{part-more}
use Rattle.tia_chip.specs.Bits.{has_bit}
use Rattle.tia_chip.specs.Private.Lines.{shown_playfield}
use Rattle.tia_chip.proofs.calm.playfield_in.Goals as goal

pub loop-k-preserved : goal.loop-k-preserved
loop-k-preserved c =
    let t = c.args.tia.now in
    record {
      most = omega arith;
      bits = λ j. part-more c.loop-k.lit c.playfield_part-lit.result c.loop-k.k c.min-alike.result j (has_bit c.args.pixels j && shown_playfield t (t.clock - 68) (t.clock - 68 + j))
          (c.loop-k.invariant.bits j) (c.playfield_part-lit.ensures j);
    }

pub returns-after-loop-k : goal.returns-after-loop-k
returns-after-loop-k c =
    let t = c.args.tia.now in
    let all : c.loop-k.k ≡ c.args.count = omega arith in
    λ j. c.loop-k.invariant.bits j ∙ ap (λ (n : ℕ). nat_lt j n && (has_bit c.args.pixels j && shown_playfield t (t.clock - 68) (t.clock - 68 + j))) all

-- where no pixel of the set is left
none-left : (pixels k count j : ℕ) (shown : Bool) → k ≤ count → pixels / 2 ^ k ≡ 0
    → (nat_lt j k && (has_bit pixels j && shown)) ≡ (nat_lt j count && (has_bit pixels j && shown))
none-left pixels k count j shown l e = elim (cases_lt j k) [
  | inl m ↦ ap (λ (b : Bool). b && (has_bit pixels j && shown)) (lt-ltb j k m ∙ sym (lt-ltb j count (omega arith)))
  | inr m ↦ let place : k + (j - k) ≡ j = omega arith in
      let none : has_bit pixels j ≡ false =
      ap (has_bit pixels) (sym place) ∙ (sym (bit-high pixels k (j - k)) ∙ (ap (λ (n : ℕ). has_bit n (j - k)) e ∙ bit-zero (j - k))) in
      let both = and_left (has_bit pixels j) shown none in
      and_right (nat_lt j k) (has_bit pixels j && shown) both ∙ sym (and_right (nat_lt j count) (has_bit pixels j && shown) both)
]

pub returns-else-pixels-k-ne0 : goal.returns-else-pixels-k-ne0
returns-else-pixels-k-ne0 c =
    let t = c.args.tia.now in
    λ j. c.loop-k.invariant.bits j ∙ none-left c.args.pixels c.loop-k.k c.args.count j (shown_playfield t (t.clock - 68) (t.clock - 68 + j)) c.loop-k.invariant.most c.if-pixels-k-ne0.false
