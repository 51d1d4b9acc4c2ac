-- What one frame does to a state. All of this is this project's own: the Stella Programmer's Guide
-- leaves it to a program where a frame begins and ends.
use Rattle.std.specs.Prelude.{ℕ, ◌≡◌, false, take}
use Rattle.cart_board.specs.CartState.{Cartridge, CartState}
use Rattle.mos_cpu.specs.declared.fault.CpuFault.TheVariants.{BadOpcode as BadOpcodeOfCpu}
use Rattle.mos_cpu.specs.declared.fault.CpuFault.TheVariants.{FetchOutside as FetchOutsideOfCpu}
use Rattle.refused.specs.declared.Refused.{Refused}
use Rattle.refused.specs.declared.Refused.TheVariants.{NoMemory, Of}
use Rattle.riot_chip.specs.Riot.{RiotState, riot_of, fields_of, with_pins}
use Rattle.tia_chip.specs.PowerOn.{with_fire, at_frame_start}
use Rattle.tia_chip.specs.declared.state.TiaState.{TiaState}
use Rattle.vcs_machine.specs.Faults.{kind_of}
use Rattle.vcs_machine.specs.Inputs.{InputData, is_pressed}
use Rattle.vcs_machine.specs.Pictures.{Rows, with_pixel as with_pixel_in, blank}
use Rattle.vcs_machine.specs.declared.fault.FaultKind.{FaultKind}
use Rattle.vcs_machine.specs.declared.fault.FaultKind.TheVariants.{BadOpcode, FetchOutside, Overlong as TooLong}
use Rattle.chip_machine.specs.Consoles.{Console}
use Rattle.chip_machine.specs.Frame.{Machine, Stop, Ended, Overlong, Faulted, stop_of}
use Rattle.chip_machine.specs.Pictures.{most_rows, rows_of}
use Rattle.chip_machine.specs.States.{StateData, cart_of}

-- The console of these parts as a frame begins: the pins and the buttons are those of the input, and the
-- line is 0. The byte on the bus doesn't matter, since each instruction begins with a fetch.
abbrev pub begun : {S : Type 0} → CartState → RiotState → TiaState → InputData → S → Console S
begun cart riot tia i sink = record {
  cart = cart;
  riot = with_pins i.swcha i.swchb riot;
  tia = at_frame_start (with_fire tia (is_pressed 0 i) (is_pressed 1 i));
  sink = sink;
  byte = 0;
  is_stopped = false;
  has_ended = false;
  cycles = 0;
}

abbrev pub machine_of : {S : Type 0} → Cartridge → StateData → InputData → S → Machine S
machine_of cartridge s i sink = record {
  registers = s.fields.cpu;
  console = begun (cart_of cartridge s) (riot_of s.fields.riot) s.fields.tia i sink;
}

-- What a frame leaves of a RIOT and a TIA: pins, buttons and the line are no part of a state.
abbrev pub riot_left : RiotState → RiotState
riot_left riot = with_pins 255 255 riot

abbrev pub tia_left : TiaState → TiaState
tia_left tia = at_frame_start (with_fire tia false false)

-- The state that a machine leaves.
abbrev pub state_left : {S : Type 0} → Machine S → StateData
state_left m = record {
  fields = record {
    cpu = m.registers;
    riot = fields_of (riot_left m.console.riot);
    tia = tia_left m.console.tia;
    banks = m.console.cart.banks;
  };
  ram = m.console.cart.ram;
}

-- The stop of this kind.
abbrev pub stop_with : {S : Type 0} → FaultKind → Stop S
stop_with (BadOpcode opcode at) = Faulted (BadOpcodeOfCpu opcode at)
stop_with (FetchOutside at) = Faulted (FetchOutsideOfCpu at)
stop_with TooLong = Overlong

-- A frame ended with a state and a picture after so many cycles, or it failed.
pub data FrameOutcome : Type 0 where
  Played : StateData → Rows → ℕ → FrameOutcome
  Failed : FaultKind → FrameOutcome

abbrev pub outcome_of : Stop Rows → FrameOutcome
outcome_of (Ended m) = Played (state_left m) (take (rows_of m.console.tia) m.console.sink) m.console.cycles
outcome_of Overlong = Failed TooLong
outcome_of (Faulted fault) = Failed (kind_of fault)

-- What a frame on a cartridge does to a state of it, with this input. Its pixels are put into as many
-- rows as are drawn, which are 0 at first.
unfoldable pub frame_of : Cartridge → StateData → InputData → FrameOutcome
frame_of cartridge s i = outcome_of (stop_of with_pixel_in (machine_of cartridge s i (blank most_rows)))

module _ {S : Type 0} where
  -- A frame that ends on a console with a sink leaves this state and this sink, after so many cycles and
  -- with a picture of so many rows.
  abbrev pub PlaysOn : (S → ℕ → ℕ → ℕ → S) → Cartridge → StateData → InputData → S → StateData → S → ℕ → ℕ → Type 0
  PlaysOn drawn cartridge s i sink after sink_after cycles rows =
      (here : Machine S) × (stop_of drawn (machine_of cartridge s i sink) ≡ Ended here) × (state_left here ≡ after)
      × (here.console.sink ≡ sink_after) × (here.console.cycles ≡ cycles) × (rows_of here.console.tia ≡ rows)

-- A frame's error. That memory was refused says nothing of the frame.
abbrev pub FailsAs : FrameOutcome → Refused FaultKind → Type 0
FailsAs outcome (Of kind) = outcome ≡ Failed kind
FailsAs outcome NoMemory = Unit {0}
