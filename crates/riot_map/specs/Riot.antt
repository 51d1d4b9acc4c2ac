-- A RIOT as contracts see it, and what its calls do to it. The registers, by the lines A0 to A4,
-- are those of the MOS MCS6532 data sheet (addressing) and of the Stella Programmer's Guide (SWCHA
-- to SWBCNT, INTIM, TIM1T to T1024T).
use Rattle.std.specs.Prelude.{ℕ, List, length, replicate, slice_set, All, pos, ◌≡◌, ◌<◌, ◌%◌, Bool}
use Rattle.std.specs.Prelude.{false, ◌==◌, if◌then◌else◌}
use Rattle.std.specs.Fn.{iterate}
use Rattle.riot_map.specs.Bits.{has_bit}
use Rattle.riot_map.specs.Timer.{Countdown, IsTimer, after_cycle, intim, part_left, timer_of_write}
use Rattle.riot_map.specs.Timer.{is_running, with_clear_flag, interval_of, interval_code}
use Rattle.riot_map.specs.Ports.{IsPort, port_a_byte, port_b_byte}
use Rattle.riot_map.specs.RiotFields.{timer_of}
use Rattle.riot_map.specs.declared.fields.RiotFields.{RiotFields}
use Rattle.riot_map.specs.declared.port.Port.{Port}

pub record RiotState : Type 0 where
  pub ram : List ℕ
  pub port_a : Port
  pub port_b : Port
  pub timer : Countdown

-- what a RIOT can be: 128 bytes of memory, ports of bytes, and a timer
pub record IsRiot (r : RiotState) : Type 0 where
  pub memory : length r.ram ≡ 128
  pub bytes : All (λ b. b < 256) r.ram
  pub port_a : IsPort r.port_a
  pub port_b : IsPort r.port_b
  pub timer : IsTimer r.timer

-- the RIOT of some numbers, with all pins at 1
unfoldable pub riot_of : RiotFields → RiotState
riot_of f = record {
  ram = f.ram;
  port_a = record { output = f.output_a; direction = f.direction_a; pins = 255 };
  port_b = record { output = f.output_b; direction = f.direction_b; pins = 255 };
  timer = timer_of f;
}

-- the numbers of a RIOT, which leave out its pins
unfoldable pub fields_of : RiotState → RiotFields
fields_of r = record {
  ram = r.ram;
  output_a = r.port_a.output;
  direction_a = r.port_a.direction;
  output_b = r.port_b.output;
  direction_b = r.port_b.direction;
  timer = intim r.timer;
  part = part_left r.timer;
  interval = interval_code r.timer.interval;
  past_zero = (if is_running r.timer then 0 else 1);
  flag = (if r.timer.flag then 1 else 0);
}

-- power-on, this project's own: all 0, and the timer one cycle before zero at its longest interval
unfoldable pub riot_at_power_on : RiotState
riot_at_power_on = record {
  ram = replicate 128 0;
  port_a = record { output = 0; direction = 0; pins = 255 };
  port_b = record { output = 0; direction = 0; pins = 255 };
  timer = record { count = pos 1; interval = 1024; flag = false };
}

-- n cycles
unfoldable pub after_cycles : ℕ → RiotState → RiotState
after_cycles n r = record r { timer = iterate after_cycle n r.timer }

-- the pins of both ports are set
abbrev pub with_pins : ℕ → ℕ → RiotState → RiotState
with_pins a b r = record r { port_a = record r.port_a { pins = a }; port_b = record r.port_b { pins = b } }

-- a byte of the memory is set
abbrev pub with_ram : ℕ → ℕ → RiotState → RiotState
with_ram i value r = record r { ram = slice_set r.ram i value }

-- A2 selects the timer, else the ports
abbrev pub is_timer : ℕ → Bool
is_timer register = has_bit register 2

-- A1 and A0 select SWCHA, SWACNT, SWCHB and SWBCNT; a direction register reads itself. That A4 and
-- A3 don't count here is this project's own.
abbrev pub port_read : RiotState → ℕ → ℕ
port_read r register =
    if register == 0 then port_a_byte r.port_a else if register == 1 then r.port_a.direction
    else if register == 2 then port_b_byte r.port_b else r.port_b.direction

-- INTIM if A0 is 0, else the flag in bit 7. That the other bits are 0 is this project's own: bit 6
-- of a chip is the flag of an edge on PA7, which the machine leaves out.
abbrev pub timer_read : Countdown → ℕ → ℕ
timer_read t register = if has_bit register 0 then (if t.flag then 128 else 0) else intim t

-- the byte that a read gives
unfoldable pub riot_read : RiotState → ℕ → ℕ
riot_read r register = if is_timer register then timer_read r.timer register else port_read r (register % 4)

-- a read of INTIM clears the flag (MCS6532: interrupt flag register)
unfoldable pub after_timer_read : RiotState → ℕ → RiotState
after_timer_read r register = if has_bit register 0 then r else record r { timer = with_clear_flag r.timer }

-- no other read changes anything
unfoldable pub after_read : RiotState → ℕ → RiotState
after_read r register = if is_timer register then after_timer_read r register else r

-- SWCHA and SWCHB take an output latch, SWACNT and SWBCNT a direction
abbrev pub after_port_write : RiotState → ℕ → ℕ → RiotState
after_port_write r register value =
    if register == 0 then record r { port_a = record r.port_a { output = value } }
    else if register == 1 then record r { port_a = record r.port_a { direction = value } }
    else if register == 2 then record r { port_b = record r.port_b { output = value } }
    else record r { port_b = record r.port_b { direction = value } }

-- if A4 is 1 the timer starts with the interval of A1 and A0 (TIM1T, TIM8T, TIM64T, T1024T).
-- That nothing happens if A4 is 0 is this project's own.
abbrev pub after_timer_write : RiotState → ℕ → ℕ → RiotState
after_timer_write r register value = if has_bit register 4 then record r { timer = timer_of_write (interval_of (register % 4)) value } else r

unfoldable pub after_write : RiotState → ℕ → ℕ → RiotState
after_write r register value = if is_timer register then after_timer_write r register value else after_port_write r (register % 4) value
