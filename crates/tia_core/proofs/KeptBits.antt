-- Registers that keep bit 1 alone.
use Rattle.std.proofs.Common.{◌≡◌, ℕ, ◌==◌, ◌&&◌, not, Bool, false, refl, sym, ap, ◌∙◌, bit_and, arith}
use Rattle.std.specs.Int.{bit_at}
use Rattle.std.proofs.lemmas.Nat.Bits.{bit_at_and, bit_at-lt}
use Rattle.tia_core.specs.Bits.{has_bit}
use Rattle.tia_core.specs.Position.{released_position}

-- they keep it as it is written
pub bit_1-kept : (v : ℕ) → has_bit (bit_and v 2) 1 ≡ has_bit v 1
bit_1-kept v =
    let same : bit_at (bit_and v 2) 1 ≡ bit_at v 1 = omega (arith, bit_at_and v 2 1, bit_at-lt v 1) in
    ap (λ (n : ℕ). n == 1) same

-- a bit that stays doesn't fall
stays : (before after : Bool) → before ≡ after → (before && not after) ≡ false
stays before after same = grind arith

-- a write of RESMP that leaves its bit releases no missile
pub unreleased : (resmp v nusiz player missile : ℕ) → bit_and v 2 ≡ resmp → released_position resmp v nusiz player missile ≡ missile
unreleased resmp v nusiz player missile same =
    rw (stays (has_bit resmp 1) (has_bit v 1) (ap (λ (n : ℕ). has_bit n 1) (sym same) ∙ bit_1-kept v)) refl
