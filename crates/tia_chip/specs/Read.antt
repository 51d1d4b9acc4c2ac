-- What a read gives, and what it changes. Stella Programmer's Guide: the summary of TIA read
-- addresses, INPT4, INPT5 and VBLANK D6. Measured in Stella 6.7 and MAME 0.251: the bits that the TIA
-- doesn't drive are those of the last byte on the bus, bits 7 and 6 without a meaning read 0, and a
-- button's latch is set by a read.
use Rattle.std.specs.Prelude.{ℕ, ◌+◌, ◌%◌, ◌==◌, ◌&&◌, ◌||◌, not, nat_lt, Bool, false, if◌then◌else◌}
use Rattle.tia_chip.specs.Bits.{has_bit, two_bits}
use Rattle.tia_chip.specs.Collision.{collision_byte}
use Rattle.tia_chip.specs.declared.state.TiaState.{TiaState}

-- Whether a button counts as pressed at a read: it is, or, with VBLANK D6, it was at an earlier read
-- of its register since D6 was set. Its latch keeps that.
abbrev pub counts_as_pressed : TiaState → Bool → ℕ → Bool
counts_as_pressed t fire button = fire || (has_bit t.vblank 6 && has_bit t.latches button)

-- a button by bit 7, which is clear if it counts as pressed
abbrev pub button_byte : TiaState → Bool → ℕ → ℕ
button_byte t fire button = two_bits (not (counts_as_pressed t fire button)) false

-- what a register, 0 to 15, gives in bits 7 and 6
abbrev pub register_byte : TiaState → ℕ → ℕ
register_byte t register =
    if nat_lt register 8 then collision_byte t.collisions register
    else if register == 12 then button_byte t t.fire0 0
    else if register == 13 then button_byte t t.fire1 1
    else 0

-- what a read of the register with this number gives, of which the low four bits count, if this byte
-- was the last on the bus
abbrev pub tia_read : TiaState → ℕ → ℕ → ℕ
tia_read t number bus = register_byte t (number % 16) + bus % 64

-- the TIA after that read: with VBLANK D6 a pressed button sets its latch
abbrev pub tia_after_read : TiaState → ℕ → TiaState
tia_after_read t number =
    if not (has_bit t.vblank 6) then t
    else if (number % 16 == 12) && t.fire0 then record t { latches = 1 + (if has_bit t.latches 1 then 2 else 0) }
    else if (number % 16 == 13) && t.fire1 then record t { latches = (if has_bit t.latches 0 then 1 else 0) + 2 }
    else t
