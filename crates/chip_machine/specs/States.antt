-- States between frames. What they are made of is this project's own.
use Rattle.std.specs.Prelude.{ℕ, List, ◌+◌, ◌*◌, ◌/◌, ◌%◌, Bool, ◌==◌, ◌&&◌}
use Rattle.record_table.specs.Numbers.{are_lawful}
use Rattle.cart_board.specs.CartState.{Cartridge, CartState, cart_at_power_on, cart_read, fits}
use Rattle.mos_cpu.specs.Registers.{processor_numbers}
use Rattle.riot_chip.specs.Riot.{fields_of, is_riot, riot_at_power_on}
use Rattle.tia_chip.specs.Numbers.{is_tia, is_settled}
use Rattle.tia_chip.specs.PowerOn.{tia_at_power_on}
use Rattle.chip_machine.specs.declared.fields.StateFields.{StateFields}

-- A state: its numbers, and the RAM of its cartridge.
pub record StateData : Type 0 where
  pub fields : StateFields
  pub ram : List ℕ

-- Which numbers are those of a state, on some cartridge: those of a processor, a RIOT and a TIA of which
-- a record says all, and whose beam stands where a cycle begins.
unfoldable pub is_state : StateFields → Bool
is_state f =
    are_lawful processor_numbers f.cpu && is_riot f.riot
    && (is_tia f.tia && is_settled f.tia) && (f.tia.clock % 3 == 0)

-- A state is one of a cartridge where its bank bytes are numbers of banks, and the RAM is as long as the
-- board's.
abbrev pub is_of : Cartridge → StateData → Bool
is_of cartridge s = fits cartridge s.fields.banks s.ram

-- The beam's place in its scanline, in cycles of three colour clocks.
abbrev pub line_cycle_of : StateData → ℕ
line_cycle_of s = s.fields.tia.clock / 3

-- The cartridge of a state.
abbrev pub cart_of : Cartridge → StateData → CartState
cart_of cartridge s = record { cartridge = cartridge; banks = s.fields.banks; ram = s.ram }

-- A console that was just switched on. PC comes from the reset vector by the banks that are selected
-- then (MOS MCS6500 programming manual). The rest is this project's own: S is FF, I is set, and all else
-- of the processor is 0.
abbrev pub state_at_power_on : Cartridge → StateData
state_at_power_on cartridge =
    let cart = cart_at_power_on cartridge in
    record {
      fields = record {
        cpu = record {
          a = 0;
          x = 0;
          y = 0;
          s = 0xFF;
          p = 0x04;
          pc = cart_read cart 0xFFFC 0 + 256 * cart_read cart 0xFFFD 0;
        };
        riot = fields_of riot_at_power_on;
        tia = tia_at_power_on;
        banks = cart.banks;
      };
      ram = cart.ram;
    }
