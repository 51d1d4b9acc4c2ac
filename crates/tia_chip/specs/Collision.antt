-- Collisions of pairs of objects. Stella Programmer's Guide: CXM0P to CXPPMM and CXCLR. Measured in
-- Stella 6.7: which clocks latch pairs, in the blank too, and while VSYNC is set.
use Rattle.std.specs.Prelude.{ℕ, ◌+◌, ◌*◌, ◌==◌, ◌&&◌, ◌||◌, not, Bool, false, if◌then◌else◌, List, []}
use Rattle.std.specs.Prelude.{◌∷◌, length, map, bit_or}
use Rattle.tia_chip.specs.Bits.{has_bit, two_bits}
use Rattle.tia_chip.specs.Blank.{is_in_blank}
use Rattle.tia_chip.specs.Motion.{pulses_on}
use Rattle.tia_chip.specs.Objects.{Object, P0, P1, M0, M1, BL, PF, is_in, lit_objects}
use Rattle.tia_chip.specs.declared.objects.Objects.{Objects}
use Rattle.tia_chip.specs.declared.state.TiaState.{TiaState}

-- Two objects, and where a read shows that they met: the register and the bit of its byte.
pub record Pair : Type 0 where
  pub register : ℕ
  pub bit : ℕ
  pub one : Object
  pub other : Object

abbrev pub pair : ℕ → ℕ → Object → Object → Pair
pair register bit one other = record { register = register; bit = bit; one = one; other = other }

-- The fifteen pairs, by the registers CXM0P, CXM1P, CXP0FB, CXP1FB, CXM0FB, CXM1FB, CXBLPF and
-- CXPPMM. Their order, first to last, is that of the collision bits from 14 to 0: this project's
-- own.
abbrev pub pair_table : List Pair
pair_table =
    pair 0 7 M0 P1 ∷ pair 0 6 M0 P0
    ∷ pair 1 7 M1 P0 ∷ pair 1 6 M1 P1
    ∷ pair 2 7 P0 PF ∷ pair 2 6 P0 BL
    ∷ pair 3 7 P1 PF ∷ pair 3 6 P1 BL
    ∷ pair 4 7 M0 PF ∷ pair 4 6 M0 BL
    ∷ pair 5 7 M1 PF ∷ pair 5 6 M1 BL
    ∷ pair 6 7 BL PF
    ∷ pair 7 7 P0 P1 ∷ pair 7 6 M0 M1 ∷ []

-- whether both objects of a pair are in a set
abbrev pub meets : Objects → Pair → Bool
meets o p = is_in p.one o && is_in p.other o

-- the number with these bits, highest first, behind the digits of n
abbrev pub number_from : ℕ → List Bool → ℕ
number_from n [] = n
number_from n (b ∷ bs) = number_from (2 * n + (if b then 1 else 0)) bs

-- the collision bits of these objects
unfoldable pub pairs_of : Objects → ℕ
pairs_of o = number_from 0 (map (meets o) pair_table)

-- Whether a clock latches pairs, unless VBLANK D1 is set: one of the picture, one that pulsed with an
-- object that moves on, and the first after a write that changed an object.
abbrev pub is_latching : TiaState → Bool
is_latching t = not (has_bit t.vblank 1) && (not (is_in_blank t) || pulses_on t || t.changed)

-- the TIA once a clock has latched its pairs, which stay until CXCLR
abbrev pub latched : TiaState → TiaState
latched t = record t {
  collisions = if is_latching t then bit_or t.collisions (pairs_of (lit_objects t)) else t.collisions;
  changed = false;
}

-- whether a bit of a register is 1 by the collision bits: those of a pair, which is as many places
-- above bit 0 as pairs follow it in the table
abbrev pub is_met : ℕ → ℕ → ℕ → List Pair → Bool
is_met collisions register bit [] = false
is_met collisions register bit (p ∷ ps) =
    if (p.register == register) && (p.bit == bit) then has_bit collisions (length ps) else is_met collisions register bit ps

-- what a collision register gives: pairs in bits 7 and 6
abbrev pub collision_byte : ℕ → ℕ → ℕ
collision_byte collisions register = two_bits (is_met collisions register 7 pair_table) (is_met collisions register 6 pair_table)
