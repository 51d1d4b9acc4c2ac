-- The console as its processor's bus: which chip or cartridge an address leads to, and who sees an
-- access. The address map is that of the Stella Programmer's Guide. What was measured in Stella 6.7,
-- and what is this project's own, its comment says.
use Rattle.std.specs.Prelude.{ℕ, ◌+◌, ◌-◌, ◌/◌, ◌%◌, min, Bool, true, false, if◌then◌else◌, Option, Some, None, slice_index}
use Rattle.std.specs.Fn.{iterate}
use Rattle.bus_cycles.specs.Buses.{Meaning}
use Rattle.cart_board.specs.CartState.{CartState, after_select, after_write, after_byte, cart_read, cart_target}
use Rattle.cart_board.specs.declared.window.Kind.{Kind}
use Rattle.cart_board.specs.declared.window.Kind.TheVariants.{Rom, ReadPort, WritePort}
use Rattle.riot_chip.specs.Riot.{RiotState, riot_after_step, riot_read, riot_after_read, riot_after_write, with_ram}
use Rattle.riot_map.specs.Place.{place_of}
use Rattle.riot_map.specs.declared.places.Place.{Place}
use Rattle.riot_map.specs.declared.places.Place.TheVariants.{Cart, Tia, Ram, Io}
use Rattle.tia_chip.specs.Clock.{after_clock, at_pixel}
use Rattle.tia_chip.specs.Clocks.{with_pixel}
use Rattle.tia_chip.specs.Colour.{pixel_of}
use Rattle.tia_chip.specs.Read.{tia_read, tia_after_read}
use Rattle.tia_chip.specs.Write.{tia_after_write, effect_of}
use Rattle.tia_chip.specs.declared.effect.Effect.{Effect}
use Rattle.tia_chip.specs.declared.effect.Effect.TheVariants.{Nothing, Sync, FrameEnd}
use Rattle.tia_chip.specs.declared.state.TiaState.{TiaState}

-- A console in a frame, whose pixels go to a sink.
pub record Console (S : Type 0) : Type 0 where
  pub cart : CartState
  pub riot : RiotState
  pub tia : TiaState
  pub sink : S
  -- the last byte on the bus
  pub byte : ℕ
  -- WSYNC was written, and nothing was read since
  pub is_stopped : Bool
  -- VSYNC has fallen in this frame
  pub has_ended : Bool
  -- the cycles of the frame so far
  pub cycles : ℕ

-- ---- a cycle

-- The most cycles that are counted, which no frame reaches: this project's own.
abbrev pub most_cycles : ℕ
most_cycles = 4294967295

module _ {S : Type 0} (drawn : S → ℕ → ℕ → ℕ → S) where
  -- A colour clock is one of the TIA.
  abbrev pub after_colour_clock : Console S → Console S
  after_colour_clock c = record c { tia = after_clock c.tia; sink = with_pixel drawn c.sink (pixel_of (at_pixel c.tia)) }

  -- A cycle of the processor is three colour clocks and a step of the timer (Stella Programmer's Guide).
  abbrev pub after_cycle : Console S → Console S
  after_cycle c =
      let clocked = iterate after_colour_clock 3 c in
      record clocked { riot = riot_after_step clocked.riot; cycles = min (clocked.cycles + 1) most_cycles }

-- ---- a stop after WSYNC

-- The cycles until a scanline begins, none where one begins.
abbrev pub cycles_to_line_start : ℕ → ℕ
cycles_to_line_start clock = (76 - clock / 3) % 76

-- A write to WSYNC stops the processor (Stella Programmer's Guide): before its next read, cycles pass
-- until a scanline begins. That writes aren't stopped was measured in Stella 6.7.
abbrev pub after_stop : {S : Type 0} → (S → ℕ → ℕ → ℕ → S) → Console S → Console S
after_stop drawn c =
    if c.is_stopped
    then record (iterate (after_cycle drawn) (cycles_to_line_start c.tia.clock) c) { is_stopped = false }
    else c

-- ---- an access

module _ {S : Type 0} where
  -- First the board looks at the address, and of a write at the byte.
  abbrev pub selected : Console S → ℕ → Option ℕ → Console S
  selected c address written = record c { cart = after_select c.cart address written }

  -- Then a read finds a byte where the address leads. What nothing drives is as the last byte on the
  -- bus left it.
  abbrev pub byte_at : Console S → Place → ℕ
  byte_at c (Cart address) = cart_read c.cart address c.byte
  byte_at c (Tia register) = tia_read c.tia register c.byte
  byte_at c (Ram index) = slice_index c.riot.ram index
  byte_at c (Io register) = riot_read c.riot register

  abbrev pub byte_found : Console S → ℕ → ℕ
  byte_found c address = byte_at c (place_of address)

  -- It may set a button's latch, or clear the timer's flag. Where the cartridge's RAM is for writing the
  -- last byte on the bus goes into it (this project's own).
  abbrev pub read_at : Console S → Place → Console S
  read_at c (Cart address) = record c { cart = after_write c.cart address c.byte }
  read_at c (Tia register) = record c { tia = tia_after_read c.tia register }
  read_at c (Ram index) = c
  read_at c (Io register) = record c { riot = riot_after_read c.riot register }

  abbrev pub found_at : Console S → ℕ → Console S
  found_at c address = read_at c (place_of address)

  -- A write of a register of the TIA may stop the processor, or end the frame. That one ends a frame is
  -- this project's own.
  abbrev pub with_effect : Effect → Console S → Console S
  with_effect Nothing c = c
  with_effect Sync c = record c { is_stopped = true }
  with_effect FrameEnd c = record c { has_ended = true }

  abbrev pub after_tia_write : Console S → ℕ → ℕ → Console S
  after_tia_write c register value =
      with_effect (effect_of c.tia register value) (record c { tia = tia_after_write c.tia register value })

  -- A write puts its byte where the address leads.
  abbrev pub written_at : Console S → Place → ℕ → Console S
  written_at c (Cart address) value = record c { cart = after_write c.cart address value }
  written_at c (Tia register) value = after_tia_write c register value
  written_at c (Ram index) value = record c { riot = with_ram index value c.riot }
  written_at c (Io register) value = record c { riot = riot_after_write c.riot register value }

  abbrev pub stored_at : Console S → ℕ → ℕ → Console S
  stored_at c address value = written_at c (place_of address) value

  -- At last the byte is on the bus, and the board looks at it.
  abbrev pub seen : Console S → ℕ → ℕ → Console S
  seen c address byte = record c { cart = after_byte c.cart address byte; byte = byte }

-- ---- what can be fetched

-- That a byte of an instruction comes from RAM or from the cartridge alone, and there from no place
-- where RAM is for writing, is this project's own.
abbrev pub can_be_read : Kind → Bool
can_be_read Rom = true
can_be_read ReadPort = true
can_be_read WritePort = false

abbrev pub holds_code_at : {S : Type 0} → Console S → Place → Bool
holds_code_at c (Cart address) = can_be_read (cart_target c.cart address).kind
holds_code_at c (Tia register) = false
holds_code_at c (Ram index) = true
holds_code_at c (Io register) = false

-- ---- the bus

module _ {S : Type 0} (drawn : S → ℕ → ℕ → ℕ → S) where
  -- The console where a read finds its byte: a stop is over, its cycle has passed, and the board has
  -- selected. That what a read selects gives its byte was measured in Stella 6.7.
  abbrev pub at_read : Console S → ℕ → Console S
  at_read c address = selected (after_cycle drawn (after_stop drawn c)) address None

  abbrev pub at_write : Console S → ℕ → ℕ → Console S
  at_write c address value = selected (after_cycle drawn c) address (Some value)

  -- What a console does as a bus. Each call but the first is one access, with its cycle before it.
  unfoldable pub meaning_of : Meaning (Console S)
  meaning_of = record {
    holds_code = λ c address. holds_code_at c (place_of address);
    read_value = λ c address. byte_found (at_read c address) address;
    after_read = λ c purpose address.
        let here = at_read c address in
        seen (found_at here address) address (byte_found here address);
    after_write = λ c address value. seen (stored_at (at_write c address value) address value) address value;
  }
