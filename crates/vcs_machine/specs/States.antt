-- States between frames. The record of a state is this project's own.
use Rattle.std.specs.Prelude.{ℕ, List, [], ◌∷◌, codes, ◌+◌, ◌*◌, ◌/◌, ◌%◌, Bool, ◌==◌, ◌&&◌}
use Rattle.record_table.specs.Numbers.{Number, byte, below, are_lawful}
use Rattle.mos_cpu.specs.Registers.{processor_numbers}
use Rattle.riot_map.specs.Cart.{cart_byte, bank_at_power_on}
use Rattle.riot_map.specs.Riot.{fields_of, riot_at_power_on}
use Rattle.riot_map.specs.RiotFields.{is_riot}
use Rattle.tia_core.specs.TiaState.{is_tia, tia_at_power_on}
use Rattle.vcs_machine.specs.declared.fields.StateFields.{StateFields}

-- The number that no chip has: one of two banks.
abbrev pub bank_numbers : List (Number StateFields)
bank_numbers = byte (codes "bank") (below 2) (λ f. f.bank) ∷ []

-- Which numbers are those of a state: those of a processor, a RIOT and a TIA, whose beam stands
-- where a cycle begins, and a bank.
unfoldable pub is_state : StateFields → Bool
is_state f =
    are_lawful processor_numbers f.cpu && is_riot f.riot && is_tia f.tia
    && (f.tia.clock % 3 == 0) && are_lawful bank_numbers f

-- The beam's place in its scanline, in cycles of three colour clocks.
abbrev pub line_cycle_of : StateFields → ℕ
line_cycle_of f = f.tia.clock / 3

-- A console that was just switched on. PC comes from the reset vector, by the MOS MCS6500
-- programming manual. The rest is this project's own: of two banks the second is selected, S is FF,
-- I is set, and all else of the processor is 0.
abbrev pub state_at_power_on : List ℕ → StateFields
state_at_power_on cartridge = record {
  cpu = record {
    a = 0;
    x = 0;
    y = 0;
    s = 0xFF;
    p = 0x04;
    pc = cart_byte cartridge (bank_at_power_on cartridge) 0xFFFC + 256 * cart_byte cartridge (bank_at_power_on cartridge) 0xFFFD;
  };
  riot = fields_of riot_at_power_on;
  tia = tia_at_power_on;
  bank = bank_at_power_on cartridge;
}
