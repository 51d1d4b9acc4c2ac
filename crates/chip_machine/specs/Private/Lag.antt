-- Devices that lag: the processor is some cycles ahead of them. This project's own.
use Rattle.std.specs.Prelude.{ℕ, ◌≤◌, ◌+◌, ◌-◌, ◌*◌, min}
use Rattle.std.specs.Fn.{iterate}
use Rattle.riot_chip.specs.Riot.{RiotState}
use Rattle.riot_chip.specs.Timer.{after_step}
use Rattle.tia_chip.specs.Clock.{after_clock}
use Rattle.tia_chip.specs.Clocks.{sink_after_clocks}
use Rattle.tia_chip.specs.declared.state.TiaState.{TiaState}
use Rattle.chip_machine.specs.Consoles.{Console, most_cycles}
use Rattle.chip_machine.specs.declared.devices.Devices.{Devices}

-- A RIOT after some cycles: its timer alone makes the steps.
abbrev pub riot_after_steps : ℕ → RiotState → RiotState
riot_after_steps n riot = record riot { timer = iterate after_step n riot.timer }

-- Devices once they have caught up, and the cycles of the frame then.
module _ {S : Type 0} where
  abbrev pub riot_seen : Devices S → RiotState
  riot_seen d = riot_after_steps (d.riot_left - d.lag_left) d.riot

  abbrev pub tia_seen : Devices S → TiaState
  tia_seen d = iterate after_clock (3 * (76 - d.lag_left)) d.tia

  abbrev pub sink_seen : (S → ℕ → ℕ → ℕ → S) → Devices S → S
  sink_seen drawn d = sink_after_clocks drawn d.sink (3 * (76 - d.lag_left)) d.tia

  abbrev pub cycles_seen : Devices S → ℕ
  cycles_seen d = min (d.cycles + (76 - d.lag_left)) most_cycles

-- What is true of devices that lag: the RIOT is not ahead of the processor, and at most a million
-- cycles behind; the TIA's lag is at most that of a scanline.
pub record IsBehind {S : Type 0} (d : Devices S) : Type 0 where
  pub riot_left : d.lag_left ≤ d.riot_left
  pub most_riot : d.riot_left ≤ 1000000
  pub most : d.lag_left ≤ 76

-- A console after so many cycles, all at once.
abbrev pub after_cycles : {S : Type 0} → (S → ℕ → ℕ → ℕ → S) → ℕ → Console S → Console S
after_cycles drawn n c = record c {
  riot = riot_after_steps n c.riot;
  tia = iterate after_clock (3 * n) c.tia;
  sink = sink_after_clocks drawn c.sink (3 * n) c.tia;
  cycles = min (c.cycles + n) most_cycles;
}
