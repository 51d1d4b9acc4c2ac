-- A frame ends exactly where VSYNC's bit 1 falls.
use Rattle.std.proofs.Common.{◌≡◌, ℕ, ◌&&◌, not, ◌↔◌, Bool, true, false, if◌then◌else◌}
use Rattle.std.proofs.Common.{arith}
use Rattle.tia_core.specs.Bits.{has_bit}
use Rattle.tia_core.specs.Write.{fields_after, effect_after}
use Rattle.tia_core.specs.declared.fields.TiaFields.{TiaFields}
use Rattle.tia_core.specs.declared.effect.Effect.TheVariants.{Nothing, FrameEnd}
use Rattle.tia_core.specs.declared.register.Register.{Register}
use Rattle.tia_core.specs.declared.register.Register.TheVariants.{Vsync, Wsync}
use Rattle.tia_core.proofs.KeptBits.{bit_1-kept}

falls : (before after : Bool) → ((if before && not after then FrameEnd else Nothing) ≡ FrameEnd) ↔ ((before ≡ true) × (after ≡ false))
falls before after = grind arith

pub frame_end-vsync : (t : TiaFields) (fire0 fire1 : Bool) (r : Register) (v : ℕ)
    → (effect_after t r v ≡ FrameEnd) ↔ ((has_bit t.vsync 1 ≡ true) × (has_bit (fields_after t fire0 fire1 r v).vsync 1 ≡ false))
frame_end-vsync t fire0 fire1 Vsync v = rw (bit_1-kept v) (falls (has_bit t.vsync 1) (has_bit v 1))
frame_end-vsync t fire0 fire1 Wsync v = (λ e. cc, λ h. cc)
frame_end-vsync t fire0 fire1 _ v = (λ e. cc, λ h. cc)
