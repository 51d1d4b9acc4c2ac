-- Addresses, as the code makes them.
use Rattle.std.proofs.Common.{◌≡◌, ℕ, ◌+◌, ◌*◌, ◌/◌, ◌%◌, ◌<◌, arith, bit_and, bit_or}
use Rattle.std.proofs.lemmas.Nat.{or_shifted, and_mask}
use Rattle.std.proofs.lemmas.Nat.Bits.{and_high_mask}

-- The next address of a page.
pub page_next : (n : ℕ) → n < 65536
    → bit_or (bit_and n 65280) (bit_and ((n + 1) % 65536) 255) ≡ n / 256 * 256 + (n + 1) % 256
page_next n h =
    let low : (n + 1) % 65536 % 256 ≡ (n + 1) % 256 = omega arith in
    rw (and_high_mask 16 8 (omega arith) n h, and_mask ((n + 1) % 65536) 8, low)
    (or_shifted (n / 256) 8 ((n + 1) % 256) (omega arith))
