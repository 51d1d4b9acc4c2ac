-- Bytes by their bits.
use Rattle.std.proofs.Common.{◌≡◌, ℕ, ◌-◌, ◌^◌, ◌<◌, Bool, true, false, refl, sym}
use Rattle.std.proofs.Common.{arith, ◌∙◌, ◌&&◌, ◌||◌, not, bit_and, bit_or, ◌==◌, if◌then◌else◌}
use Rattle.std.proofs.lemmas.Bool.{agree_below, agree_below_at, eqb-true}
use Rattle.std.proofs.lemmas.Bool.Decides.{nat_tests}
use Rattle.std.proofs.lemmas.Nat.Bits.{bit_at_and, bit_at_or, bit_at-lt}
use Rattle.std.proofs.lemmas.Nat.{and_le_l, or_lt}
use Rattle.riot_map.specs.Bits.{has_bit, byte_of_bits}
use Rattle.riot_map.specs.Ports.{port_a_bit, port_b_bit, port_a_byte, port_b_byte}
use Rattle.riot_map.specs.declared.port.Port.{Port}

pub bit-and : (a b k : ℕ) → has_bit (bit_and a b) k ≡ (has_bit a k && has_bit b k)
bit-and a b k = grind (arith, nat_tests, bit_at_and a b k, bit_at-lt a k, bit_at-lt b k)

pub bit-or : (a b k : ℕ) → has_bit (bit_or a b) k ≡ (has_bit a k || has_bit b k)
bit-or a b k = grind (arith, nat_tests, bit_at_or a b k, bit_at-lt a k, bit_at-lt b k)

-- the complement turns each bit of a byte
abbrev turns : ℕ → Bool
turns k = agree_below (λ d. has_bit (255 - d) k) (λ d. not (has_bit d k)) 256

pub bit-not : (d k : ℕ) → d < 256 → k < 8 → has_bit (255 - d) k ≡ not (has_bit d k)
bit-not d k h l =
    agree_below_at (λ d. has_bit (255 - d) k) (λ d. not (has_bit d k)) 256 d (agree_below_at turns (λ _. true) 8 k refl l) h

-- a byte is that of its bits
pub byte-bits : (n : ℕ) → n < 256 → n ≡ byte_of_bits (has_bit n)
byte-bits n h = sym (eqb-true _ _ (agree_below_at (λ m. byte_of_bits (has_bit m) == m) (λ _. true) 256 n refl h))

-- so a byte with the bits of another is that
same_byte : (n : ℕ) (bits : ℕ → Bool) → n < 256 → ((k : ℕ) → k < 8 → has_bit n k ≡ bits k) → n ≡ byte_of_bits bits
same_byte n bits h same =
    byte-bits n h ∙ rw (
      same 7 (omega arith),
      same 6 (omega arith),
      same 5 (omega arith),
      same 4 (omega arith),
      same 3 (omega arith),
      same 2 (omega arith),
      same 1 (omega arith),
      same 0 (omega arith),
    ) refl

bools_a : (p o d : Bool) → (p && (o || not d)) ≡ (if d && not o then false else p)
bools_a p o d = grind (arith, nat_tests)

bools_b : (p o d : Bool) → ((o && d) || (p && not d)) ≡ (if d then o else p)
bools_b p o d = grind (arith, nat_tests)

pub port_a : (p : Port) → p.direction < 256 → p.pins < 256
    → bit_and p.pins (bit_or p.output (255 - p.direction)) ≡ port_a_byte p
unfolding port_a_byte
port_a p h small =
    same_byte _ (port_a_bit p) (omega (arith, and_le_l p.pins (bit_or p.output (255 - p.direction))))
    (λ k l. rw (bit-and p.pins (bit_or p.output (255 - p.direction)) k, bit-or p.output (255 - p.direction) k, bit-not p.direction k h l)
    (bools_a (has_bit p.pins k) (has_bit p.output k) (has_bit p.direction k)))

pub port_b : (p : Port) → p.direction < 256 → p.output < 256 → p.pins < 256
    → bit_or (bit_and p.output p.direction) (bit_and p.pins (255 - p.direction)) ≡ port_b_byte p
unfolding port_b_byte
port_b p h k l =
    let latch : bit_and p.output p.direction < 2 ^ 8 = omega (arith, and_le_l p.output p.direction) in
    let pins : bit_and p.pins (255 - p.direction) < 2 ^ 8 = omega (arith, and_le_l p.pins (255 - p.direction)) in
    same_byte _ (port_b_bit p) (or_lt 8 _ _ latch pins)
    (λ i m. rw (
      bit-or (bit_and p.output p.direction) (bit_and p.pins (255 - p.direction)) i,
      bit-and p.output p.direction i,
      bit-and p.pins (255 - p.direction) i,
      bit-not p.direction i h m,
    )
    (bools_b (has_bit p.pins i) (has_bit p.output i) (has_bit p.direction i)))
