-- What a read of a port gives, each bit by itself. MOS MCS6532 data sheet (peripheral registers,
-- data direction registers); Stella Programmer's Guide (SWCHA, SWACNT, SWCHB, SWBCNT). That an
-- output of 1 on port A doesn't hide its pin is this project's own.
use Rattle.std.specs.Prelude.{ℕ, ◌<◌, Bool, false, not, ◌&&◌, if◌then◌else◌}
use Rattle.riot_map.specs.Bits.{has_bit, byte_of_bits}
use Rattle.riot_map.specs.declared.port.Port.{Port}

-- port A: the pin, but 0 if the direction is 1 and the latch is 0
abbrev pub port_a_bit : Port → ℕ → Bool
port_a_bit p k = if has_bit p.direction k && not (has_bit p.output k) then false else has_bit p.pins k

-- port B: the latch if the direction is 1, else the pin
abbrev pub port_b_bit : Port → ℕ → Bool
port_b_bit p k = if has_bit p.direction k then has_bit p.output k else has_bit p.pins k

unfoldable pub port_a_byte : Port → ℕ
port_a_byte p = byte_of_bits (port_a_bit p)

unfoldable pub port_b_byte : Port → ℕ
port_b_byte p = byte_of_bits (port_b_bit p)

-- the registers of a port are bytes
pub record IsPort (p : Port) : Type 0 where
  pub output : p.output < 256
  pub direction : p.direction < 256
