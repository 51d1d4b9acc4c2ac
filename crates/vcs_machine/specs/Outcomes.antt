-- What one frame does to a state. All of this is this project's own: the Stella Programmer's Guide
-- leaves it to a program where a frame begins and ends.
use Rattle.std.specs.Prelude.{ℕ, ◌≡◌, false, List, []}
use Rattle.refused.specs.declared.Refused.{Refused}
use Rattle.refused.specs.declared.Refused.TheVariants.{NoMemory, Of}
use Rattle.riot_map.specs.Riot.{riot_of, fields_of, with_pins}
use Rattle.tia_core.specs.TiaState.{tia_of as tia_state_of, with_fire, at_frame_start}
use Rattle.tia_core.specs.Clock.{Pixel, sink_after_pixels}
use Rattle.vcs_machine.specs.Consoles.{Console, frame_meaning_of, with_pixel_logged}
use Rattle.vcs_machine.specs.Faults.{kind_of, stop_with}
use Rattle.vcs_machine.specs.Frame.{Machine, Stop, Ended, Overlong, Faulted, machine_at, stop_of}
use Rattle.vcs_machine.specs.Inputs.{InputData, is_pressed}
use Rattle.vcs_machine.specs.Pictures.{Rows, picture_of, rows_of}
use Rattle.vcs_machine.specs.States.{line_cycle_of}
use Rattle.vcs_machine.specs.declared.fault.FaultKind.{FaultKind}
use Rattle.vcs_machine.specs.declared.fault.FaultKind.TheVariants.{Overlong as TooLong}
use Rattle.vcs_machine.specs.declared.fields.StateFields.{StateFields}

-- A frame ended with a state and a picture, or it failed and left a state.
pub data FrameOutcome : Type 0 where
  Played : StateFields → Rows → FrameOutcome
  Failed : FaultKind → StateFields → FrameOutcome

-- The state that a frame leaves.
abbrev pub left_by : FrameOutcome → StateFields
left_by (Played s rows) = s
left_by (Failed kind s) = s

-- The console of a state at a frame's start: the pins and the buttons are those of the input, then
-- a pressed button sets its latch if VBLANK has bit 6, and the line is 0. Only the latch is the
-- Guide's.
abbrev pub console_of : {S : Type 0} → List ℕ → StateFields → InputData → S → Console S
console_of cartridge s i sink =
    record {
      cartridge = cartridge;
      bank = s.bank;
      riot = with_pins i.swcha i.swchb (riot_of s.riot);
      tia = at_frame_start (with_fire (tia_state_of s.tia) (is_pressed 0 i) (is_pressed 1 i));
      awaits_line = false;
      ended = false;
      sink = sink;
    }

abbrev pub machine_of : {S : Type 0} → List ℕ → StateFields → InputData → S → Machine (Console S)
machine_of cartridge s i sink = record { registers = s.cpu; bus = console_of cartridge s i sink; cycles = 0 }

-- The state that a machine leaves.
abbrev pub state_left : {S : Type 0} → Machine (Console S) → StateFields
state_left m = record { cpu = m.registers; riot = fields_of m.bus.riot; tia = m.bus.tia.fields; bank = m.bus.bank }

-- The outcome of a way to stop, for a frame that began at this cycle of its scanline.
abbrev pub outcome_of : ℕ → Stop (Console (List Pixel)) → FrameOutcome
outcome_of line_cycle (Ended m) = Played (state_left m) (picture_of (rows_of line_cycle m.cycles) m.bus.sink)
outcome_of line_cycle (Overlong m) = Failed TooLong (state_left m)
outcome_of line_cycle (Faulted fault m) = Failed (kind_of fault) (state_left m)

-- What a frame on a cartridge does to a state, with this input.
unfoldable pub frame_of : List ℕ → StateFields → InputData → FrameOutcome
frame_of cartridge s i = outcome_of (line_cycle_of s) (stop_of (frame_meaning_of with_pixel_logged) (machine_of cartridge s i []))

-- The cycles that a frame has taken when it stops, waits included.
unfoldable pub cycles_of : List ℕ → StateFields → InputData → ℕ
cycles_of cartridge s i = (machine_at (stop_of (frame_meaning_of with_pixel_logged) (machine_of cartridge s i []))).cycles

-- A frame's error, and the state that it leaves.
abbrev pub FailsAs : FrameOutcome → Refused FaultKind → StateFields → Type 0
FailsAs outcome (Of kind) s = outcome ≡ Failed kind s
FailsAs outcome NoMemory s = Unit {0}

-- A frame stops for this cause, leaves this state, and has taken so many cycles.
abbrev pub Halts : List ℕ → StateFields → InputData → FaultKind → StateFields → ℕ → Type 0
Halts cartridge s i kind after cycles =
    (here : Machine (Console (List Pixel)))
    × (stop_of (frame_meaning_of with_pixel_logged) (machine_of cartridge s i []) ≡ stop_with kind here)
    × (state_left here ≡ after)
    × (here.cycles ≡ cycles)

-- A frame that ends leaves this state after so many cycles, and its pixels have been put on a sink.
abbrev pub PlaysOn : {S : Type 0} → (S → ℕ → ℕ → ℕ → S) → List ℕ → StateFields → InputData → S → StateFields → S → ℕ → Type 0
PlaysOn drawn cartridge s i sink after sink_after cycles =
    (here : Machine (Console (List Pixel))) × (stop_of (frame_meaning_of with_pixel_logged) (machine_of cartridge s i []) ≡ Ended here) × (state_left here ≡ after)
    × (sink_after_pixels drawn sink here.bus.sink ≡ sink_after) × (here.cycles ≡ cycles)
