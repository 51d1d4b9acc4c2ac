use Rattle.std.proofs.Common.{◌≡◌, ◌<◌, ◌+◌, ◌*◌, ◌%◌, ◌∙◌, inl, inr, true, arith}
use Rattle.std.proofs.lemmas.Bool.Decides.{nat_tests}
use Rattle.tia_core.specs.Bits.{has_bit}
use Rattle.std.proofs.lemmas.Bool.{cases_lt}
use Rattle.tia_core.proofs.MaskWordLemmas.{none-twice}
use Rattle.tia_core.proofs.mask.Mask.any_two_meet.Goals as goal

pub loop-i-init : goal.loop-i-init
loop-i-init c = λ x le lt before. absurd (omega arith)

pub loop-i-preserved : goal.loop-i-preserved
loop-i-preserved c = λ x le lt next. elim (cases_lt x (32 * c.loop-i.i)) [
  | inl before ↦ c.loop-i.invariant x le lt before
  | inr here ↦
      (let h : x < 160 = omega arith in
      let at : 32 * c.loop-i.i + x % 32 ≡ x = omega arith in
      let there : has_bit c.ones.result (x % 32) ≡ true = c.ones.ensures (x % 32) (omega arith)
      ∙ grind (arith, nat_tests) in
      rw (← c.a.view_is, ← c.b.view_is, ← c.c.view_is, ← c.d.view_is, ← c.e.view_is, ← c.f.view_is)
      (none-twice c.a.inside.words c.b.inside.words c.c.inside.words c.d.inside.words
      c.e.inside.words c.f.inside.words c.ones.result c.set_twice-twice.result c.loop-i.i x
      c.set_twice-twice.ensures (c.overlap.ensures c.if-overlap.false) (omega arith) h there))
]
