use Rattle.std.proofs.Common.{◌∙◌, ◌≡◌, [], arith}
use Rattle.tia_core.specs.Clock.{pixels}
use Rattle.tia_core.proofs.ClockLemmas.{clocks-in_two}
use Rattle.tia_core.proofs.Stretches.{blank-stretch}
use Rattle.tia_core.proofs.tia.Tia.pass_stretches.Goals as goal

pub loop-left-preserved-then-clock-lt68 : goal.loop-left-preserved-then-clock-lt68
loop-left-preserved-then-clock-lt68 g c =
    let m = c.least-count.result in
    let s = c.loop-left.self in
    let parts = clocks-in_two g.S.Paint.drawn c.loop-left.sink m c.loop-left.left s (omega arith) in
    let none : pixels m s ≡ [] = (blank-stretch m s (omega arith)).1 in
    record {
      value = rw c.pass_blank.ensures (parts.0 ∙ c.loop-left.invariant.value);
      sink = rw c.pass_blank.ensures (rw none at parts.1 ∙ c.loop-left.invariant.sink);
    }

pub loop-left-preserved : goal.loop-left-preserved
loop-left-preserved g c =
    let parts = clocks-in_two g.S.Paint.drawn c.loop-left.sink c.least-count-else-clock-lt68.result c.loop-left.left c.loop-left.self (omega arith) in
    record {
      value = rw c.pass_visible.ensures.value (parts.0 ∙ c.loop-left.invariant.value);
      sink = rw (c.pass_visible.ensures.value, c.pass_visible.ensures.sink) (parts.1 ∙ c.loop-left.invariant.sink);
    }
