-- Clocks and writes keep lawful numbers lawful.
use Rattle.std.proofs.Common.{◌≡◌, ℕ, zero, suc, ◌^◌, ◌<◌}
use Rattle.std.proofs.Common.{Bool, false}
use Rattle.std.proofs.Common.{refl, ap, ◌∙◌, arith, rules, bit_and}
use Rattle.std.proofs.Common.{subst, sym}
use Rattle.std.proofs.lemmas.Bool.Decides.{nat_tests}
use Rattle.std.specs.Fn.{iterate}
use Rattle.std.specs.Int.Bits.{and_self}
use Rattle.std.proofs.lemmas.Nat.{and_assoc, or_lt}
use Rattle.tia_core.proofs.LinePlaces.{modulo_160-lt}
use Rattle.tia_core.proofs.PairLemmas.{pairs_of-lt}
use Rattle.tia_core.proofs.ClockLemmas.{iterate-clocked-fields}
use Rattle.tia_core.specs.Bits.{has_bit}
use Rattle.tia_core.specs.Clock.{after_clock, collisions_after}
use Rattle.tia_core.specs.Latch.{latches_after_vblank, latches_at_start}
use Rattle.tia_core.specs.Position.{released_position}
use Rattle.tia_core.specs.Registers.{register_of, register_bits, mask_of, FitsRegister}
use Rattle.tia_core.specs.Private.Lawful.{IsLawfulTia}
use Rattle.tia_core.specs.TiaState.{TiaState, at_frame_start}
use Rattle.tia_core.specs.Write.{fields_after, tia_after_write}
use Rattle.tia_core.specs.declared.fields.TiaFields.{TiaFields}
use Rattle.tia_core.specs.declared.register.Register.{Register}
use Rattle.tia_core.specs.declared.register.Register.TheVariants.{Wsync}

pub kept-is_kept : (r : Register) (v : ℕ) → FitsRegister r (register_bits r v)
kept-is_kept r v = let m = mask_of r in and_assoc m v m ∙ ap (bit_and v) (and_self m)

latches_written-lt : (latches : ℕ) (fire0 fire1 : Bool) (v : ℕ) → latches_after_vblank latches fire0 fire1 v < 4
latches_written-lt latches fire0 fire1 v = grind arith

latches_written-none : (latches : ℕ) (fire0 fire1 : Bool) (v : ℕ) → has_bit v 6 ≡ false → latches_after_vblank latches fire0 fire1 v ≡ 0
latches_written-none latches fire0 fire1 v h = rw h refl

latches_begun-lt : (latches : ℕ) (fire0 fire1 : Bool) (v : ℕ) → latches < 4 → latches_at_start latches fire0 fire1 v < 4
latches_begun-lt latches fire0 fire1 v h = grind arith

released_position-lt : (old new nusiz player missile : ℕ) → missile < 160 → released_position old new nusiz player missile < 160
released_position-lt old new nusiz player missile h = grind arith

ruleset bounds = (rules, kept-is_kept, latches_written-lt, latches_written-none, modulo_160-lt, released_position-lt)

pub fields_after-lawful : (t : TiaFields) (fire0 fire1 : Bool) (r : Register) (v : ℕ) → IsLawfulTia t → IsLawfulTia (fields_after t fire0 fire1 r v)
fields_after-lawful t fire0 fire1 Wsync v h = h
fields_after-lawful t fire0 fire1 _ v h = search bounds

collisions_after-lt : (t : TiaFields) → t.collisions < 2 ^ 15 → collisions_after t < 2 ^ 15
collisions_after-lt t h = grind (arith, pairs_of-lt, or_lt 15)

placed-lawful : (t : TiaFields) (c h b : ℕ) → IsLawfulTia t → c < 2 ^ 15 → h < 228 → b < 2 → IsLawfulTia (record t { collisions = c; clock = h; comb = b })
placed-lawful t c h b l p q r = search (rules, l.unlatched)

pub clocked-lawful : (s : TiaState) → IsLawfulTia s.fields → IsLawfulTia (after_clock s).fields
clocked-lawful s h = subst IsLawfulTia (sym (iterate-clocked-fields 1 s h.clock))
    (placed-lawful s.fields _ _ _ h (grind (arith, collisions_after-lt s.fields h.collisions)) (grind (arith, nat_tests, h.clock)) (grind (arith, h.comb)))

pub iterate-clocked-lawful : (n : ℕ) (s : TiaState) → IsLawfulTia s.fields → IsLawfulTia (iterate after_clock n s).fields
iterate-clocked-lawful zero s h = h
iterate-clocked-lawful (suc n) s h = iterate-clocked-lawful n (after_clock s) (clocked-lawful s h)

pub written-lawful : (s : TiaState) (number v : ℕ) → IsLawfulTia s.fields → IsLawfulTia (tia_after_write s number v).fields
unfolding tia_after_write
written-lawful s number v h = fields_after-lawful s.fields s.fire0 s.fire1 (register_of number) v h

pub frame_begun-lawful : (s : TiaState) → IsLawfulTia s.fields → IsLawfulTia (at_frame_start s).fields
frame_begun-lawful s h = search (rules, latches_begun-lt, begun_unlatched) where
  begun_unlatched : has_bit s.fields.vblank 6 ≡ false → latches_at_start s.fields.latches s.fire0 s.fire1 s.fields.vblank ≡ 0
  begun_unlatched e = rw e (h.unlatched e)
