-- The timer of the MOS 6532 as a console's chip counts: a byte, the cycles until an interval ends,
-- the interval, and a flag. Intervals and registers are those of the 6532's data sheet (interval
-- timer). What happens after zero was measured in Stella 6.7.
use Rattle.std.specs.Prelude.{ℕ, ◌≡◌, ◌<◌, ◌≤◌, ◌+◌, ◌-◌, ◌*◌, ◌%◌, Bool, true, false, ◌&&◌, ◌||◌, ◌==◌, nat_le, nat_lt}
use Rattle.std.specs.Prelude.{if◌then◌else◌}
use Rattle.record_table.specs.Bits.{has_bit}
use Rattle.riot_map.specs.Timer.{is_interval, interval_of, interval_code}
use Rattle.riot_chip.specs.declared.timer.TimerFields.{TimerFields}

pub record TimerState : Type 0 where
  -- what INTIM shows
  pub value : ℕ
  -- the cycles until an interval ends, from the interval down to 1
  pub part : ℕ
  -- in cycles
  pub interval : ℕ
  -- zero is behind
  pub flag : Bool

-- What a timer can be: one of the four intervals, and a part within it.
pub record IsTimer (t : TimerState) : Type 0 where
  pub byte : t.value < 256
  pub known : is_interval t.interval ≡ true
  pub some : 1 ≤ t.part
  pub most : t.part ≤ t.interval

-- The value falls where an interval ends, and past zero in each cycle.
abbrev pub falls : TimerState → Bool
falls t = (t.part == 1) || t.flag

-- One cycle. From 0 the value falls to 255, and the flag is set. Past zero intervals go on.
abbrev pub after_step : TimerState → TimerState
after_step t = record {
  value = (if falls t then (if t.value == 0 then 255 else t.value - 1) else t.value);
  part = (if t.part == 1 then t.interval else t.part - 1);
  interval = t.interval;
  flag = t.flag || (falls t && (t.value == 0));
}

-- A read of INTIM and a write of the timer clear the flag, but not while the value is 255: that is
-- the cycle in which the flag was set, and each 256th after it (this project's own words for what
-- was measured).
abbrev pub flag_after_access : TimerState → Bool
flag_after_access t = t.flag && (t.value == 255)

-- A read of the timer's registers, which have line A2 as 1: INTIM if line A0 is 0, else the flag in
-- bit 7. The other bits are 0: that the edge of PA7 and its flag in bit 6 are left out is this project's
-- own.
abbrev pub timer_read : TimerState → ℕ → ℕ
timer_read t register = if has_bit register 0 then (if t.flag then 128 else 0) else t.value

-- A read of INTIM brings the interval back, since it clears the flag.
abbrev pub after_read : TimerState → ℕ → TimerState
after_read t register = if has_bit register 0 then t else record t { flag = flag_after_access t }

-- A write starts the timer if line A4 is 1, with the interval of A1 and A0, and one cycle before the
-- end of an interval. That nothing happens if A4 is 0 is this project's own.
abbrev pub after_write : TimerState → ℕ → ℕ → TimerState
after_write t register value =
    if has_bit register 4 then record { value = value; part = 1; interval = interval_of (register % 4); flag = flag_after_access t } else t

-- INTIM shows at least this much, and zero is ahead.
pub record ShowsAtLeast (least : ℕ) (t : TimerState) : Type 0 where
  pub ahead : t.flag ≡ false
  pub shown : least ≤ t.value

-- For how many cycles that is so, from this one on.
abbrev pub cycles_at_least : ℕ → TimerState → ℕ
cycles_at_least least t = if t.flag || nat_lt t.value least then 0 else (t.value - least) * t.interval + t.part

-- Power-on, this project's own: one cycle before zero falls, at the longest interval.
abbrev pub timer_at_power_on : TimerState
timer_at_power_on = record { value = 0; part = 1; interval = 1024; flag = false }

-- ---- as a record has it

-- The numbers of a timer that there is: a code of an interval, a part within it, and a flag of 0 or 1.
abbrev pub is_timer : TimerFields → Bool
is_timer f = nat_le f.interval 3 && nat_le 1 f.part && nat_le f.part (interval_of f.interval) && nat_le f.flag 1

abbrev pub timer_of : TimerFields → TimerState
timer_of f = record { value = f.value; part = f.part; interval = interval_of f.interval; flag = f.flag == 1 }

abbrev pub numbers_of : TimerState → TimerFields
numbers_of t = record { value = t.value; part = t.part; interval = interval_code t.interval; flag = (if t.flag then 1 else 0) }
