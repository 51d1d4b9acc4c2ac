-- A cartridge's banks and mirrors by a mask.
use Rattle.std.proofs.Common.{◌≡◌, ℕ, ◌+◌, ◌-◌, ◌*◌, ◌%◌, ◌<◌, List, length, true}
use Rattle.std.proofs.Common.{arith, bit_and}
use Rattle.std.specs.Prelude.{slice_index}
use Rattle.std.proofs.lemmas.Bool.Decides.{nat_tests}
use Rattle.std.proofs.lemmas.Nat.{and_mask}
use Rattle.riot_map.specs.Cart.{is_cart_length, cart_byte}

-- the lengths are powers of two
pub mask_is_mirror : (cartridge : List ℕ) (bank address : ℕ) → bank < 2 → is_cart_length (length cartridge) ≡ true
    → slice_index cartridge (bit_and (4096 * bank + address % 4096) (length cartridge - 1)) ≡ cart_byte cartridge bank address
mask_is_mirror cartridge bank address small h =
    let place = 4096 * bank + address % 4096 in
    grind (arith, nat_tests, and_mask place 11, and_mask place 12, and_mask place 13)
