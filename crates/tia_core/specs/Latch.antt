-- The latches of the two buttons: bit 0 of button 0, bit 1 of button 1. Stella Programmer's Guide:
-- INPT4, INPT5 and VBLANK D6. This project's own: the moments at which a button sets its latch.
use Rattle.std.specs.Prelude.{ℕ, ◌+◌, ◌||◌, Bool, if◌then◌else◌}
use Rattle.tia_core.specs.Bits.{has_bit}

-- the latches once each pressed button has set its own
abbrev pub latches_with_buttons : ℕ → Bool → Bool → ℕ
latches_with_buttons latches fire0 fire1 = (if has_bit latches 0 || fire0 then 1 else 0) + (if has_bit latches 1 || fire1 then 2 else 0)

-- the latches after VBLANK was written: cleared if its bit 6 is clear
abbrev pub latches_after_vblank : ℕ → Bool → Bool → ℕ → ℕ
latches_after_vblank latches fire0 fire1 vblank = if has_bit vblank 6 then latches_with_buttons latches fire0 fire1 else 0

-- the latches after a frame's start
abbrev pub latches_at_start : ℕ → Bool → Bool → ℕ → ℕ
latches_at_start latches fire0 fire1 vblank = if has_bit vblank 6 then latches_with_buttons latches fire0 fire1 else latches
