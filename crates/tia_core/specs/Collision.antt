-- Collisions of pairs of objects. Stella Programmer's Guide: CXM0P to CXPPMM and CXCLR. This
-- project's own: blanked pixels collide too, and a pair stays until CXCLR.
use Rattle.std.specs.Prelude.{ℕ, ◌+◌, ◌*◌, ◌^◌, ◌==◌, ◌&&◌, Bool, false, if◌then◌else◌, List, []}
use Rattle.std.specs.Prelude.{◌∷◌, length, map, sum}
use Rattle.tia_core.specs.Bits.{has_bit, two_bits}
use Rattle.tia_core.specs.Objects.{Object, P0, P1, M0, M1, BL, PF, is_in}
use Rattle.tia_core.specs.declared.objects.Objects.{Objects}

-- Two objects, and where a read shows that they met: the register and the bit of its byte.
pub record Pair : Type 0 where
  pub register : ℕ
  pub bit : ℕ
  pub one : Object
  pub other : Object

abbrev pub pair : ℕ → ℕ → Object → Object → Pair
pair register bit one other = record { register = register; bit = bit; one = one; other = other }

-- The fifteen pairs, by the registers CXM0P, CXM1P, CXP0FB, CXP1FB, CXM0FB, CXM1FB, CXBLPF and
-- CXPPMM. Their order, first to last, is that of the collision bits from 14 to 0: this project's
-- own.
abbrev pub pair_table : List Pair
pair_table =
    pair 0 7 M0 P1 ∷ pair 0 6 M0 P0
    ∷ pair 1 7 M1 P0 ∷ pair 1 6 M1 P1
    ∷ pair 2 7 P0 PF ∷ pair 2 6 P0 BL
    ∷ pair 3 7 P1 PF ∷ pair 3 6 P1 BL
    ∷ pair 4 7 M0 PF ∷ pair 4 6 M0 BL
    ∷ pair 5 7 M1 PF ∷ pair 5 6 M1 BL
    ∷ pair 6 7 BL PF
    ∷ pair 7 7 P0 P1 ∷ pair 7 6 M0 M1 ∷ []

-- whether a pair is among the objects that cover a pixel
abbrev pub meets : Objects → Pair → Bool
meets o p = is_in p.one o && is_in p.other o

-- the number with these bits, highest first, behind the digits of n
abbrev pub number_from : ℕ → List Bool → ℕ
number_from n [] = n
number_from n (b ∷ bs) = number_from (2 * n + (if b then 1 else 0)) bs

-- whether each pair of the table meets
abbrev pub pairs_list : Objects → List Bool
pairs_list o = map (meets o) pair_table

-- the collision bits of these objects
unfoldable pub pairs_of : Objects → ℕ
pairs_of o = number_from 0 (pairs_list o)

-- whether a bit of a register is 1 by the collision bits: those of a pair, which is as many places
-- above bit 0 as pairs follow it in the table
abbrev pub is_met : ℕ → ℕ → ℕ → List Pair → Bool
is_met collisions register bit [] = false
is_met collisions register bit (p ∷ ps) =
    if (p.register == register) && (p.bit == bit) then has_bit collisions (length ps) else is_met collisions register bit ps

-- what a collision register gives: pairs in bits 7 and 6
abbrev pub collision_byte : ℕ → ℕ → ℕ
collision_byte collisions register = two_bits (is_met collisions register 7 pair_table) (is_met collisions register 6 pair_table)

-- what a collision register gives after one pixel that these objects cover: the bits of those of
-- its pairs that meet
abbrev pub met_byte : Objects → ℕ → ℕ
met_byte o register = sum (map (λ p. if (p.register == register) && meets o p then 2 ^ p.bit else 0) pair_table)
