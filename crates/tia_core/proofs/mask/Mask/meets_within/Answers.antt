use Rattle.std.proofs.Common.{◌*◌, inl, inr, arith}
use Rattle.std.proofs.lemmas.Bool.{cases_lt}
use Rattle.tia_core.proofs.MaskWordLemmas.{common-some, common-none}
use Rattle.tia_core.proofs.mask.Mask.meets_within.Goals as goal

pub returns-then-all_overlap-clause-some : goal.returns-then-all_overlap-clause-some
returns-then-all_overlap-clause-some c = λ e.
    let p = c.all_overlap.ensures.some c.if-all_overlap.true in
    rw (← c.self.view_is, ← c.other.view_is, ← c.within.view_is)
    (common-some c.self.inside.words c.other.inside.words c.within.inside.words c.loop-i.i c.loop-i-test.true p.1 p.0)

pub loop-i-preserved : goal.loop-i-preserved
loop-i-preserved c = λ x h lt. elim (cases_lt x (32 * c.loop-i.i)) [
  | inl before ↦ c.loop-i.invariant x h before
  | inr here ↦ rw (← c.self.view_is, ← c.other.view_is, ← c.within.view_is)
      (let none = c.all_overlap.ensures.none c.if-all_overlap.false in
      common-none c.self.inside.words c.other.inside.words c.within.inside.words c.loop-i.i x none (omega arith) h)
]
