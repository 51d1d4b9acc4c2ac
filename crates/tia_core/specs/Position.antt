-- Where objects stand on a line of 160 pixels: the position strobes, horizontal motion, missiles
-- locked to their players. Stella Programmer's Guide: RESP0 to RESBL, HMOVE and the HM registers,
-- RESMP0 and RESMP1. This project's own: the exact clocks of the strobes, all motion at once, and
-- where a missile is released.
use Rattle.std.specs.Prelude.{ℕ, ◌+◌, ◌-◌, ◌/◌, ◌%◌, ◌==◌, ◌&&◌, not, nat_lt, if◌then◌else◌, ℤ, pos}
use Rattle.std.specs.Prelude.{◌+ℤ◌, ◌-ℤ◌, unsigned_abs}
use Rattle.std.specs.Int.{int_rem_euclid}
use Rattle.tia_core.specs.Bits.{has_bit}

-- a number modulo 160, also one below 0
unfoldable pub modulo_160 : ℤ → ℕ
modulo_160 z = unsigned_abs (int_rem_euclid z (pos 160))

-- where a strobe at this clock of a line puts an object: `blank` in the blank, else `delay` pixels
-- on
abbrev pub strobed_position : ℕ → ℕ → ℕ → ℕ
strobed_position blank delay clock = if nat_lt clock 68 then blank else (clock - 68 + delay) % 160

-- where an object is after HMOVE: a nibble to 7 moves it left that far, one from 8 right by 16
-- minus it
abbrev pub moved_position : ℕ → ℕ → ℕ
moved_position motion position =
    if nat_lt (motion / 16) 8
    then modulo_160 (pos position -ℤ pos (motion / 16))
    else modulo_160 (pos position +ℤ pos (16 - motion / 16))

-- how far right of its player a missile is released, by the player's mode
abbrev pub release_of : ℕ → ℕ
release_of mode = if mode == 5 then 8 else if mode == 7 then 16 else 4

-- where a missile is after a write of RESMP: released from its player if the bit falls
abbrev pub released_position : ℕ → ℕ → ℕ → ℕ → ℕ → ℕ
released_position old new nusiz player missile =
    if has_bit old 1 && not (has_bit new 1) then (player + release_of (nusiz % 8)) % 160 else missile
