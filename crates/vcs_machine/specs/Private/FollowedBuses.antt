-- A frame on one bus, followed on another: a map between buses that keeps what a frame asks of
-- them. This project's own.
use Rattle.std.specs.Prelude.{ℕ, ◌≡◌, List}
use Rattle.mos_cpu.specs.Buses.{Respects}
use Rattle.tia_core.specs.Clock.{Pixel, sink_after_pixels}
use Rattle.vcs_machine.specs.Consoles.{Console}
use Rattle.vcs_machine.specs.Frame.{Machine, FrameMeaning, Stop, Ended, Overlong, Faulted}

-- A map between buses that keeps what a frame asks of them.
pub record Follows {B C : Type 0} (b : FrameMeaning B) (c : FrameMeaning C) (h : B → C) : Type 0 where
  pub calls : Respects b.calls c.calls h
  pub after_wait : (x : B) → c.after_wait (h x) ≡ h (b.after_wait x)
  pub wait : (x : B) → c.wait (h x) ≡ b.wait x
  pub ended : (x : B) → c.ended (h x) ≡ b.ended x

-- The machine, and the way to stop, on the other bus.
abbrev pub machine_along : {B C : Type 0} → (B → C) → Machine B → Machine C
machine_along h m = record { registers = m.registers; bus = h m.bus; cycles = m.cycles }

abbrev pub stop_along : {B C : Type 0} → (B → C) → Stop B → Stop C
stop_along h (Ended m) = Ended (machine_along h m)
stop_along h (Overlong m) = Overlong (machine_along h m)
stop_along h (Faulted fault m) = Faulted fault (machine_along h m)

-- A console that has drawn its list on a sink.
abbrev pub drawn_on : {S : Type 0} → (S → ℕ → ℕ → ℕ → S) → S → Console (List Pixel) → Console S
drawn_on drawn sink c = record {
  cartridge = c.cartridge;
  bank = c.bank;
  riot = c.riot;
  tia = c.tia;
  awaits_line = c.awaits_line;
  ended = c.ended;
  sink = sink_after_pixels drawn sink c.sink;
}
