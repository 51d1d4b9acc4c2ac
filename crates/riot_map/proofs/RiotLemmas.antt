-- What reads, writes and cycles leave is a RIOT again.
use Rattle.std.proofs.Common.{rules, mul-le-mul_right, ◌≡◌, ℕ, zero, suc, ◌+◌, ◌<◌, Bool, true, false, arith, if◌then◌else◌}
use Rattle.std.specs.Fn.{iterate}
use Rattle.std.proofs.lemmas.Bool.Decides.{nat_tests}
use Rattle.std.proofs.lemmas.Int.{ints}
use Rattle.std.proofs.lemmas.List.Elements.{All-set, All-replicate}
use Rattle.riot_map.specs.Timer.{Countdown, IsTimer, after_cycle, timer_of_write, interval_of}
use Rattle.riot_map.specs.Riot.{RiotState, IsRiot, riot_at_power_on, with_pins, with_ram, after_cycles, after_timer_read, after_read, after_write, is_timer}
use Rattle.riot_map.specs.Riot.{riot_read}
use Rattle.riot_map.proofs.RiotNumbers.{is_interval-of, interval-positive}
use Rattle.riot_map.proofs.TimerLemmas.{clear-again, intim-again}

-- one cycle
pub IsTimer-ticked : (t : Countdown) → IsTimer t → IsTimer (after_cycle t)
unfolding after_cycle
IsTimer-ticked t h =
    record { interval = h.interval; least = grind (arith, ints, nat_tests, h.least); most = grind (arith, ints, nat_tests, h.most) }

pub IsTimer-iterate : (n : ℕ) (t : Countdown) → IsTimer t → IsTimer (iterate after_cycle n t)
IsTimer-iterate zero t h = h
IsTimer-iterate (suc n) t h = IsTimer-iterate n (after_cycle t) (IsTimer-ticked t h)

pub IsTimer-started : (code value : ℕ) → value < 256 → IsTimer (timer_of_write (interval_of code) value)
unfolding timer_of_write
IsTimer-started code value h =
    let room = mul-le-mul_right {m = value + 1} {n = 256} (interval_of code) (omega arith) in
    record { interval = is_interval-of code; least = omega (arith, ints); most = omega (arith, ints, interval-positive code, room) }

kept-if : (b : Bool) (r s : RiotState) → IsRiot r → IsRiot s → IsRiot (if b then r else s)
kept-if true r s h k = h
kept-if false r s h k = k

pub IsRiot-power_on : IsRiot riot_at_power_on
unfolding riot_at_power_on
IsRiot-power_on = search (rules, ints, All-replicate (λ b. b < 256) 128 0)

-- what the calls leave
pub IsRiot-cycles : (r : RiotState) (n : ℕ) → IsRiot r → IsRiot (after_cycles n r)
unfolding after_cycles
IsRiot-cycles r n h = search (rules, IsTimer-iterate)

pub IsRiot-read : (r : RiotState) (register : ℕ) → IsRiot r → IsRiot (after_read r register)
unfolding after_read after_timer_read
IsRiot-read r register h = search (rules, kept-if)

pub IsRiot-write : (r : RiotState) (register value : ℕ) → value < 256 → IsRiot r → IsRiot (after_write r register value)
unfolding after_write
IsRiot-write r register value k h = search (rules, kept-if, IsTimer-started) depth 10

pub IsRiot-ram : (r : RiotState) (i value : ℕ) → value < 256 → IsRiot r → IsRiot (with_ram i value r)
IsRiot-ram r i value k h = search (rules, All-set (λ b. b < 256) r.ram i value k h.bytes)

pub IsRiot-pins : (r : RiotState) (a b : ℕ) → IsRiot r → IsRiot (with_pins a b r)
IsRiot-pins r a b h = search rules

-- a read of the timer forgets the one before it
pub read-again : (n register : ℕ) (r : RiotState) → is_timer register ≡ true
    → after_read (after_cycles n (after_read r register)) register ≡ after_read (after_cycles n r) register
unfolding after_read after_timer_read after_cycles
read-again n register r h = grind (arith, nat_tests, h, clear-again n r.timer)

pub value-again : (n register : ℕ) (r : RiotState) → is_timer register ≡ true
    → riot_read (after_cycles n (after_read r register)) register ≡ riot_read (after_cycles n r) register
unfolding riot_read after_read after_timer_read after_cycles
value-again n register r h = grind (arith, nat_tests, h, intim-again n r.timer)
