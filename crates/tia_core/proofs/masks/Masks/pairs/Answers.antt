use Rattle.std.proofs.Common.{◌∙◌}
use Rattle.tia_core.specs.Private.ObjectSets.{p0, p1, m0, m1, bl, pf}
use Rattle.tia_core.proofs.MaskFits.{met-is}
use Rattle.tia_core.proofs.masks.Masks.pairs.Goals as goal

pub returns-clause-value : goal.returns-clause-value
returns-clause-value c =
    let a = c.args in
    let r = c.requires in
    let met = met-is a.tia.now a.self.now c.between-within.result a.from a.to r.shown r.range c.between-within.ensures in
    c.number_of.ensures.value ∙ rw (
      met m0 p1 _ c.meets_within.ensures.some c.meets_within.ensures.none,
      met m0 p0 _ c.meets_within-2.ensures.some c.meets_within-2.ensures.none,
      met m1 p0 _ c.meets_within-3.ensures.some c.meets_within-3.ensures.none,
      met m1 p1 _ c.meets_within-4.ensures.some c.meets_within-4.ensures.none,
      met p0 pf _ c.meets_within-5.ensures.some c.meets_within-5.ensures.none,
      met p0 bl _ c.meets_within-6.ensures.some c.meets_within-6.ensures.none,
      met p1 pf _ c.meets_within-7.ensures.some c.meets_within-7.ensures.none,
      met p1 bl _ c.meets_within-8.ensures.some c.meets_within-8.ensures.none,
      met m0 pf _ c.meets_within-9.ensures.some c.meets_within-9.ensures.none,
      met m0 bl _ c.meets_within-10.ensures.some c.meets_within-10.ensures.none,
      met m1 pf _ c.meets_within-11.ensures.some c.meets_within-11.ensures.none,
      met m1 bl _ c.meets_within-12.ensures.some c.meets_within-12.ensures.none,
      met bl pf _ c.meets_within-13.ensures.some c.meets_within-13.ensures.none,
      met p0 p1 _ c.meets_within-14.ensures.some c.meets_within-14.ensures.none,
      met m0 m1 _ c.meets_within-15.ensures.some c.meets_within-15.ensures.none,
    )
