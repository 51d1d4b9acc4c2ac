use Rattle.std.proofs.Common.{◌≡◌, ℕ, ◌<◌, ◌≤◌, ◌*◌, false}
use Rattle.tia_core.specs.Mask.{covers}
use Rattle.tia_core.specs.Private.ObjectSets.{has_two}
use Rattle.tia_core.proofs.mask.Mask.any_two_meet.Given as goal

abbrev pub invariant-loop-i : goal.invariant-loop-i
invariant-loop-i l = (x : ℕ) → l.from ≤ x → x < l.to → x < 32 * l.i
    → has_two (covers l.a x) (covers l.b x) (covers l.c x) (covers l.d x) (covers l.e x) (covers l.f x) ≡ false
