-- The numbers of a TIA pass the test of all conditions exactly where each of them holds.
use Rattle.std.proofs.Common.{◌≡◌, ℕ, ◌<◌, ◌/◌, Bool, false, ◌&&◌, ◌||◌, ◌==◌, IsTrue, List, [], ◌∷◌, arith}
use Rattle.std.specs.Prelude.{nat_lt}
use Rattle.std.proofs.lemmas.Bool.Decides.{nat_tests, Decides-eqb, Decides-ltb}
use Rattle.tia_core.specs.Bits.{has_bit}
use Rattle.tia_core.specs.Private.Lawful.{IsLawfulTia}
use Rattle.tia_core.specs.Registers.{register_bits, FitsRegister, fits_register}
use Rattle.record_table.specs.Numbers.{Number, are_lawful}
use Rattle.tia_core.specs.Numbers.{colour_numbers, object_numbers, motion_numbers, position_numbers}
use Rattle.tia_core.specs.Numbers.{beam_numbers}
use Rattle.tia_core.specs.TiaState.{is_tia}
use Rattle.tia_core.specs.declared.fields.TiaFields.{TiaFields}
use Rattle.tia_core.specs.declared.register.Register.{Register}

-- ---- from the test to each number
both : (a b : Bool) → IsTrue (a && b) → IsTrue a × IsTrue b
both a b h = grind arith

EachLawful : List (Number TiaFields) → TiaFields → Type 0
EachLawful [] t = Unit {0}
EachLawful (n ∷ ns) t = IsTrue (n.may_be (n.value t)) × EachLawful ns t

each-lawful : (ns : List (Number TiaFields)) (t : TiaFields) → IsTrue (are_lawful ns t) → EachLawful ns t
unfolding EachLawful
each-lawful [] t h = tt
each-lawful (n ∷ ns) t h = let b = both _ _ h in (b.0, each-lawful ns t b.1)

kept : (a b : ℕ) → IsTrue (a == b) → a ≡ b
kept a b h = (Decides-eqb a b).0 h

below : (a b : ℕ) → IsTrue (nat_lt a b) → a < b
below a b h = (Decides-ltb a b).0 h

-- the beam is in one of the 76 cycles of its line, each of three clocks
in_line : (clock : ℕ) → IsTrue (nat_lt (clock / 3) 76) → clock < 228
in_line clock h = let cycle = below _ _ h in omega arith

unlatched : (vblank latches : ℕ) → IsTrue (has_bit vblank 6 || (latches == 0)) → has_bit vblank 6 ≡ false → latches ≡ 0
unlatched vblank latches h none = grind (arith, nat_tests)

number_by_number : (t : TiaFields) → EachLawful colour_numbers t → EachLawful object_numbers t → EachLawful motion_numbers t
    → EachLawful position_numbers t → EachLawful beam_numbers t → IsTrue (has_bit t.vblank 6 || (t.latches == 0)) → IsLawfulTia t
unfolding EachLawful
number_by_number t colours objects motion positions beam latch = search (kept, below, in_line, unlatched)

pub lawful_of : (t : TiaFields) → IsTrue (is_tia t) → IsLawfulTia t
unfolding is_tia
lawful_of t h =
    let g4 = both _ _ h in
    let g3 = both _ _ g4.0 in
    let g2 = both _ _ g3.0 in
    let g1 = both _ _ g2.0 in
    let g0 = both _ _ g1.0 in
    number_by_number t (each-lawful _ t g0.0) (each-lawful _ t g0.1) (each-lawful _ t g1.1) (each-lawful _ t g2.1) (each-lawful _ t g3.1) g4.1

-- ---- from each number to the test
and : (a b : Bool) → IsTrue a → IsTrue b → IsTrue (a && b)
and a b h k = grind arith

keeps_it : (r : Register) (n : ℕ) → FitsRegister r n → IsTrue (fits_register r n)
keeps_it r n h = (Decides-eqb (register_bits r n) n).1 h

is_below : (a b : ℕ) → a < b → IsTrue (nat_lt a b)
is_below a b h = (Decides-ltb a b).1 h

in_cycle : (clock : ℕ) → clock < 228 → IsTrue (nat_lt (clock / 3) 76)
in_cycle clock h = is_below (clock / 3) 76 (omega arith)

may_latch : (vblank latches : ℕ) → (has_bit vblank 6 ≡ false → latches ≡ 0) → IsTrue (has_bit vblank 6 || (latches == 0))
may_latch vblank latches h = grind (arith, nat_tests)

pub passes : (t : TiaFields) → IsLawfulTia t → IsTrue (is_tia t)
unfolding is_tia
passes t l = search (and, keeps_it, is_below, in_cycle, may_latch) depth 60 fits 4000
