-- The numbers of a RIOT: which are lawful, and their timer. This project's own.
use Rattle.std.specs.Prelude.{◌≡◌, ◌<◌, List, [], ◌∷◌, codes, length, All, Bool, ◌==◌, ◌&&◌, ◌||◌, nat_le}
use Rattle.record_table.specs.Numbers.{Number, byte, word, anything, below, are_lawful}
use Rattle.riot_map.specs.Timer.{Countdown, count_of, interval_of}
use Rattle.riot_map.specs.declared.fields.RiotFields.{RiotFields}

-- those after the memory, in a record's order; the interval is a code, past zero and flag are 0 or 1
abbrev pub riot_numbers : List (Number RiotFields)
riot_numbers =
    byte (codes "output latch of port A") anything (λ r. r.output_a)
    ∷ byte (codes "direction of port A") anything (λ r. r.direction_a)
    ∷ byte (codes "output latch of port B") anything (λ r. r.output_b)
    ∷ byte (codes "direction of port B") anything (λ r. r.direction_b)
    ∷ byte (codes "timer value") anything (λ r. r.timer)
    ∷ word (codes "timer part") anything (λ r. r.part)
    ∷ byte (codes "timer interval") (below 4) (λ r. r.interval)
    ∷ byte (codes "timer past zero") (below 2) (λ r. r.past_zero)
    ∷ byte (codes "timer flag") (below 2) (λ r. r.flag)
    ∷ []

-- r is value * interval + part if zero is ahead, else value - 255
unfoldable pub timer_of : RiotFields → Countdown
timer_of f = record { count = count_of f.timer f.part (interval_of f.interval) (f.past_zero == 1); interval = interval_of f.interval; flag = f.flag == 1 }

-- each number is lawful, and the part is 1 to the interval, and 1 past zero
unfoldable pub is_riot : RiotFields → Bool
is_riot f =
    are_lawful riot_numbers f
    && nat_le 1 f.part && nat_le f.part (interval_of f.interval) && ((f.past_zero == 0) || (f.part == 1))

-- the ranges of the numbers' types
pub record AreInRange (f : RiotFields) : Type 0 where
  pub memory : length f.ram ≡ 128
  pub bytes : All (λ b. b < 256) f.ram
  pub output_a : f.output_a < 256
  pub direction_a : f.direction_a < 256
  pub output_b : f.output_b < 256
  pub direction_b : f.direction_b < 256
  pub timer : f.timer < 256
