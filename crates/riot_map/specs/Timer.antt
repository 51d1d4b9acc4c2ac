-- The timer: one whole number that falls by one each cycle, an interval and a flag. Registers and
-- intervals are those of the MOS MCS6532 data sheet (interval timer) and of the Stella Programmer's
-- Guide (TIM1T, TIM8T, TIM64T, T1024T, INTIM). This project's own: the phase, that is in which
-- cycle each value changes, and that a read past zero doesn't bring the interval back.
use Rattle.std.specs.Prelude.{ℕ, ℤ, pos, negsuc, ◌≡◌, ◌≤ℤ◌, ◌+ℤ◌, ◌-ℤ◌, nat_abs, int_le, ◌+◌, ◌-◌, ◌*◌}
use Rattle.std.specs.Prelude.{◌/◌, ◌%◌, Bool, true, false, ◌||◌, ◌==◌, if◌then◌else◌}
use Rattle.std.specs.Ordering.{int_eq}

pub record Countdown : Type 0 where
  -- r: from 256 intervals down to 1, then from 0 down to -255 and again from 0
  pub count : ℤ
  -- in cycles
  pub interval : ℕ
  pub flag : Bool

-- each cycle takes 1, and after -255 comes 0
abbrev pub next_count : ℤ → ℤ
next_count r = if int_eq r (negsuc 254) then pos 0 else r -ℤ pos 1

-- one cycle; the flag is set in the step from 1 to 0
unfoldable pub after_cycle : Countdown → Countdown
after_cycle t = record { count = next_count t.count; interval = t.interval; flag = int_eq t.count (pos 1) || t.flag }

-- zero is still ahead: r is at least 1
abbrev pub is_running : Countdown → Bool
is_running t = int_le (pos 1) t.count

-- INTIM: (r - 1) div the interval if r is at least 1, else 255 + r
unfoldable pub intim : Countdown → ℕ
intim t = if is_running t then nat_abs (t.count -ℤ pos 1) / t.interval else nat_abs (pos 255 +ℤ t.count)

-- the cycles until INTIM changes
unfoldable pub part_left : Countdown → ℕ
part_left t = if is_running t then nat_abs (t.count -ℤ pos 1) % t.interval + 1 else 1

-- the cycles that may pass while INTIM shows at least this much, and zero is ahead; 0 if it shows
-- less now, or if zero is behind
abbrev pub cycles_above : ℕ → Countdown → ℕ
cycles_above least t = if is_running t then nat_abs (t.count -ℤ pos 1) - least * t.interval else 0

-- a write of n starts at n intervals and 1, with a clear flag
unfoldable pub timer_of_write : ℕ → ℕ → Countdown
timer_of_write interval n = record { count = pos (n * interval + 1); interval = interval; flag = false }

-- a read of INTIM clears the flag
abbrev pub with_clear_flag : Countdown → Countdown
with_clear_flag t = record t { flag = false }

-- the intervals: those of TIM1T, TIM8T, TIM64T and T1024T
abbrev pub is_interval : ℕ → Bool
is_interval n = (n == 1) || (n == 8) || (n == 64) || (n == 1024)

-- the intervals by their codes, 0 to 3
abbrev pub interval_of : ℕ → ℕ
interval_of code = if code == 0 then 1 else if code == 1 then 8 else if code == 2 then 64 else 1024

-- the code of an interval
abbrev pub interval_code : ℕ → ℕ
interval_code interval = if interval == 1 then 0 else if interval == 8 then 1 else if interval == 64 then 2 else 3

-- r by the value that INTIM shows, the cycles until it changes, and whether zero is behind
abbrev pub count_of : ℕ → ℕ → ℕ → Bool → ℤ
count_of value part interval past_zero = if past_zero then pos value -ℤ pos 255 else pos (value * interval + part)

-- what a timer can be: one of the four intervals, and r from -255 to 256 of them
pub record IsTimer (t : Countdown) : Type 0 where
  pub interval : is_interval t.interval ≡ true
  pub least : negsuc 254 ≤ℤ t.count
  pub most : t.count ≤ℤ pos (256 * t.interval)
