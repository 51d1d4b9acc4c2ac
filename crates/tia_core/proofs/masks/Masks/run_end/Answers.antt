use Rattle.std.proofs.Common.{◌≡◌, ◌<◌, ◌+◌, ◌-◌, ◌%◌, inl, inr, ap, sym, refl, arith}
use Rattle.std.proofs.Math.Nat.{eq-or-lt_of_le}
use Rattle.tia_core.specs.Private.ObjectMasks.{objects_in}
use Rattle.tia_core.proofs.RunLemmas.{or-clear}
use Rattle.tia_core.proofs.masks.Masks.run_end.Goals as goal

pub returns-clause-same : goal.returns-clause-same
returns-clause-same c = λ y le lt. elim (eq-or-lt_of_le le) [
  | inl here ↦ ap (objects_in c.args.self.now) (sym here)
  | inr later ↦
      (let x = c.args.x in
      let k = y - x in
      let first = c.least-2.ensures.first in
      let word = c.edge_after.ensures.word in
      let edge = c.least.ensures.first in
      let second = c.least-2.ensures.second in
      let e : y ≡ x + k = omega arith in
      let inside : x % 32 + k < 32 = omega arith in
      let clear = or-clear _ _ _ _ _ _ k (c.first_change.ensures.clear k (omega arith) (omega arith)) in
      rw (
        e,
        c.changes.ensures k inside clear.0,
        c.changes-2.ensures k inside clear.1,
        c.changes-3.ensures k inside clear.2,
        c.changes-4.ensures k inside clear.3,
        c.changes-5.ensures k inside clear.4,
        c.changes-6.ensures k inside clear.5,
      ) refl)
]
