use Rattle.std.proofs.Common.{◌≡◌, ◌<◌, ℕ, take}
use Rattle.std.specs.List.{list_any}
use Rattle.tia_core.specs.Bits.{has_bit}
use Rattle.tia_core.specs.Coverage.{distance_of}
use Rattle.tia_core.specs.Mask.{covers}
use Rattle.tia_core.proofs.object_masks.mask_of_copies.Given as goal

abbrev pub invariant-loop-copy : goal.invariant-loop-copy
invariant-loop-copy l = (x : ℕ) → x < 160 → covers l.mask x ≡ list_any (λ c. has_bit l.row (distance_of x l.position c)) (take l.copy-index l.copy-items)
