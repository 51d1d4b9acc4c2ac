-- A RIOT whose timer counts as the chip's does, and what its calls do to it. The registers, by the lines
-- A0 to A4, are those of the MOS MCS6532 data sheet (addressing) and of the Stella Programmer's Guide
-- (SWCHA to SWBCNT, INTIM, TIM1T to T1024T).
use Rattle.std.specs.Prelude.{ℕ, List, [], ◌∷◌, replicate, slice_set, ◌%◌, Bool, ◌==◌, if◌then◌else◌, codes}
use Rattle.record_table.specs.Numbers.{Number, byte, word, anything}
use Rattle.riot_map.specs.Ports.{port_a_byte, port_b_byte}
use Rattle.riot_map.specs.Riot.{is_timer}
use Rattle.riot_map.specs.declared.port.Port.{Port}
use Rattle.riot_chip.specs.Timer.{TimerState, after_step, after_read, after_write, timer_read, timer_at_power_on}
use Rattle.riot_chip.specs.Timer.{is_timer as is_timer_lawful, timer_of, numbers_of}
use Rattle.riot_chip.specs.declared.fields.RiotFields.{RiotFields}

pub record RiotState : Type 0 where
  pub ram : List ℕ
  pub port_a : Port
  pub port_b : Port
  pub timer : TimerState

-- ---- power-on, pins and memory

-- All 0, but for the timer. This project's own.
abbrev pub riot_at_power_on : RiotState
riot_at_power_on = record {
  ram = replicate 128 0;
  port_a = record { output = 0; direction = 0; pins = 255 };
  port_b = record { output = 0; direction = 0; pins = 255 };
  timer = timer_at_power_on;
}

-- The pins of both ports are set.
abbrev pub with_pins : ℕ → ℕ → RiotState → RiotState
with_pins a b r = record r { port_a = record r.port_a { pins = a }; port_b = record r.port_b { pins = b } }

-- A byte of the memory is set.
abbrev pub with_ram : ℕ → ℕ → RiotState → RiotState
with_ram i value r = record r { ram = slice_set r.ram i value }

-- ---- a cycle, reads and writes

-- In each cycle of the processor's clock the timer makes a step.
abbrev pub riot_after_step : RiotState → RiotState
riot_after_step r = record r { timer = after_step r.timer }

-- A1 and A0 select SWCHA, SWACNT, SWCHB and SWBCNT; a direction register reads itself. That A4 and
-- A3 don't count here is this project's own.
abbrev pub port_read : RiotState → ℕ → ℕ
port_read r register =
    if register == 0 then port_a_byte r.port_a else if register == 1 then r.port_a.direction
    else if register == 2 then port_b_byte r.port_b else r.port_b.direction

-- A2 selects the timer, else the ports.
abbrev pub riot_read : RiotState → ℕ → ℕ
riot_read r register = if is_timer register then timer_read r.timer register else port_read r (register % 4)

-- A read of the timer may change its flag. No other read changes anything.
abbrev pub riot_after_read : RiotState → ℕ → RiotState
riot_after_read r register = if is_timer register then record r { timer = after_read r.timer register } else r

-- SWCHA and SWCHB take an output latch, SWACNT and SWBCNT a direction.
abbrev pub after_port_write : RiotState → ℕ → ℕ → RiotState
after_port_write r register value =
    if register == 0 then record r { port_a = record r.port_a { output = value } }
    else if register == 1 then record r { port_a = record r.port_a { direction = value } }
    else if register == 2 then record r { port_b = record r.port_b { output = value } }
    else record r { port_b = record r.port_b { direction = value } }

abbrev pub riot_after_write : RiotState → ℕ → ℕ → RiotState
riot_after_write r register value =
    if is_timer register then record r { timer = after_write r.timer register value } else after_port_write r (register % 4) value

-- ---- as a record has it

-- The numbers of a RIOT, which leave out its pins.
abbrev pub fields_of : RiotState → RiotFields
fields_of r = record {
  ram = r.ram;
  output_a = r.port_a.output;
  direction_a = r.port_a.direction;
  output_b = r.port_b.output;
  direction_b = r.port_b.direction;
  timer = numbers_of r.timer;
}

-- Of a RIOT that there is the timer's numbers are lawful.
abbrev pub is_riot : RiotFields → Bool
is_riot f = is_timer_lawful f.timer

-- The RIOT of some numbers, with all pins at 1.
abbrev pub riot_of : RiotFields → RiotState
riot_of f = record {
  ram = f.ram;
  port_a = record { output = f.output_a; direction = f.direction_a; pins = 255 };
  port_b = record { output = f.output_b; direction = f.direction_b; pins = 255 };
  timer = timer_of f.timer;
}

-- The numbers that follow the memory, in a record's order. What more is true of them `is_riot` says.
abbrev pub riot_numbers : List (Number RiotFields)
riot_numbers =
    byte (codes "output latch of port A") anything (λ f. f.output_a)
    ∷ byte (codes "direction of port A") anything (λ f. f.direction_a)
    ∷ byte (codes "output latch of port B") anything (λ f. f.output_b)
    ∷ byte (codes "direction of port B") anything (λ f. f.direction_b)
    ∷ byte (codes "timer value") anything (λ f. f.timer.value)
    ∷ word (codes "timer part") anything (λ f. f.timer.part)
    ∷ byte (codes "timer interval") anything (λ f. f.timer.interval)
    ∷ byte (codes "timer flag") anything (λ f. f.timer.flag)
    ∷ []
