use Rattle.std.proofs.Common.{◌≡◌, ℕ, ◌<◌, ◌*◌, ◌&&◌, false}
use Rattle.tia_core.specs.Mask.{covers}
use Rattle.tia_core.proofs.mask.Mask.meets_within.Given as goal

abbrev pub invariant-loop-i : goal.invariant-loop-i
invariant-loop-i l = (x : ℕ) → x < 160 → x < 32 * l.i → (covers l.self x && covers l.other x && covers l.within x) ≡ false
