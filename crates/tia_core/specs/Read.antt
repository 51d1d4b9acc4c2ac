-- What a read gives. It changes nothing. Stella Programmer's Guide: the summary of TIA read
-- addresses. This project's own: INPT0 to INPT3, the numbers 0E and 0F and all bits that aren't
-- named read 0.
use Rattle.std.specs.Prelude.{ℕ, ◌%◌, ◌==◌, nat_lt, Bool, if◌then◌else◌}
use Rattle.tia_core.specs.Bits.{has_bit}
use Rattle.tia_core.specs.Collision.{collision_byte}
use Rattle.tia_core.specs.TiaState.{TiaState}
use Rattle.tia_core.specs.declared.fields.TiaFields.{TiaFields}

-- a button by bit 7, which is clear if it counts as pressed: by its latch if VBLANK has bit 6
abbrev pub button_byte : ℕ → Bool → Bool → ℕ
button_byte vblank fire latch = if (if has_bit vblank 6 then latch else fire) then 0 else 128

-- what a read of register 0 to 15 gives: the eight collision registers, then INPT4 and INPT5
abbrev pub register_byte : TiaFields → Bool → Bool → ℕ → ℕ
register_byte t fire0 fire1 register =
    if nat_lt register 8 then collision_byte t.collisions register
    else if register == 12 then button_byte t.vblank fire0 (has_bit t.latches 0)
    else if register == 13 then button_byte t.vblank fire1 (has_bit t.latches 1)
    else 0

-- what a read of the register with this number gives, of which the low four bits count
abbrev pub tia_read : TiaState → ℕ → ℕ
tia_read s number = register_byte s.fields s.fire0 s.fire1 (number % 16)
