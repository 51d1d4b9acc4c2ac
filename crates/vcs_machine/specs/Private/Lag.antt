-- Devices that lag: the processor is some cycles ahead of them. This project's own.
use Rattle.std.specs.Prelude.{ℕ, ◌≡◌, ◌≤◌, ◌-◌, ◌+◌, ◌*◌, ◌%◌, nat_le, Bool, false}
use Rattle.std.specs.Fn.{iterate}
use Rattle.riot_map.specs.Riot.{RiotState, after_cycles}
use Rattle.tia_core.specs.Clock.{after_clock, pixels, sink_after_pixels}
use Rattle.tia_core.specs.TiaState.{TiaState}
use Rattle.vcs_machine.specs.declared.devices.Devices.{Devices}

-- Devices once they have caught up.
module _ {S : Type 0} where
  abbrev pub riot_seen : Devices S → RiotState
  riot_seen d = after_cycles (d.riot_left - d.lag_left) d.riot

  abbrev pub tia_seen : Devices S → TiaState
  tia_seen d = iterate after_clock (3 * (76 - d.lag_left)) d.tia

  abbrev pub sink_seen : (S → ℕ → ℕ → ℕ → S) → Devices S → S
  sink_seen drawn d = sink_after_pixels drawn d.sink (pixels (3 * (76 - d.lag_left)) d.tia)

-- A TIA that has seen so many lines that the frame may be too long before it catches up again.
abbrev pub is_late : TiaState → Bool
is_late tia = nat_le 319 tia.line

-- What is true of devices that lag: the RIOT is not ahead of the processor, and at most 179 cycles
-- behind; the TIA's lag is at most those of a scanline; and without an event the frame is not too long
-- before it catches up.
pub record IsBehind {S : Type 0} (d : Devices S) : Type 0 where
  pub riot_left : d.lag_left ≤ d.riot_left
  pub most_riot : d.riot_left ≤ 179
  pub most : d.lag_left ≤ 76
  pub early : d.has_event ≡ false → is_late d.tia ≡ false

-- Devices to which cycles are given back that were too many.
abbrev pub given_back : {S : Type 0} → Devices S → ℕ → Devices S
given_back d cycles = record d { lag_left = (d.lag_left + cycles) % 256 }

-- What is known if there was no event: no instruction wrote WSYNC, and VSYNC has not fallen.
pub record IsEventful (has_event awaits_line ended : Bool) : Type 0 where
  pub no_wait : has_event ≡ false → awaits_line ≡ false
  pub no_end : has_event ≡ false → ended ≡ false
