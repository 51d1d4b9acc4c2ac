-- The console as its processor's bus: the address map, the RIOT and the TIA of the Stella
-- Programmer's Guide, joined. Where a rule is this project's own, its comment says so.
use Rattle.std.specs.Prelude.{ℕ, ◌-◌, ◌*◌, ◌/◌, ◌%◌, ◌||◌, Bool, true, false, if◌then◌else◌, Option}
use Rattle.std.specs.Prelude.{Some, None, List, [], ◌∷◌, ◌++◌, slice_index}
use Rattle.std.specs.Fn.{iterate}
use Rattle.mos_cpu.specs.Buses.{Meaning}
use Rattle.riot_map.specs.Riot.{RiotState, after_cycles, after_read, after_write, with_ram}
use Rattle.riot_map.specs.Riot.{riot_read as riot_read_of}
use Rattle.riot_map.specs.Cart.{cart_byte, bank_after}
use Rattle.riot_map.specs.Place.{place_of}
use Rattle.riot_map.specs.declared.places.Place.{Place}
use Rattle.riot_map.specs.declared.places.Place.TheVariants.{Cart, Tia, Ram, Io}
use Rattle.tia_core.specs.TiaState.{TiaState}
use Rattle.tia_core.specs.Clock.{Pixel, after_clock, pixels, sink_after_pixels}
use Rattle.tia_core.specs.Write.{tia_after_write, effect_of}
use Rattle.tia_core.specs.Read.{tia_read as tia_read_of}
use Rattle.tia_core.specs.declared.effect.Effect.{Effect}
use Rattle.tia_core.specs.declared.effect.Effect.TheVariants.{Sync, FrameEnd}
use Rattle.vcs_machine.specs.Frame.{FrameMeaning}

-- A console whose pixels go to a sink. `bank` is the selected bank of the cartridge, `awaits_line`
-- says whether WSYNC was written in this instruction, and `ended` whether VSYNC has fallen in this
-- frame.
pub record Console (S : Type 0) : Type 0 where
  pub cartridge : List ℕ
  pub bank : ℕ
  pub riot : RiotState
  pub tia : TiaState
  pub awaits_line : Bool
  pub ended : Bool
  pub sink : S

abbrev pub is_sync : Effect → Bool
is_sync Sync = true
is_sync other = false

abbrev pub is_frame_end : Effect → Bool
is_frame_end FrameEnd = true
is_frame_end other = false

module _ {S : Type 0} where
  -- The byte that a read gives.
  abbrev pub value_at : Console S → Place → ℕ
  value_at c (Cart address) = cart_byte c.cartridge c.bank address
  value_at c (Tia register) = tia_read_of c.tia register
  value_at c (Ram index) = slice_index c.riot.ram index
  value_at c (Io register) = riot_read_of c.riot register

  -- A read may select a bank, and one of the timer may clear its flag. That a read still sees the
  -- bank before it is this project's own.
  abbrev pub read_at : Console S → Place → Console S
  read_at c (Cart address) = record c { bank = bank_after c.cartridge c.bank address }
  read_at c (Io register) = record c { riot = after_read c.riot register }
  read_at c other = c

  -- An instruction's byte. That no register of the TIA or the RIOT gives one, and that it selects
  -- no bank, is this project's own.
  abbrev pub peeked_at : Console S → Place → Option ℕ
  peeked_at c (Cart address) = Some (cart_byte c.cartridge c.bank address)
  peeked_at c (Ram index) = Some (slice_index c.riot.ram index)
  peeked_at c other = None

  -- A write of a register of the TIA may ask for a wait, or end the frame. That one ends a frame is
  -- this project's own.
  abbrev pub after_tia_write : Console S → ℕ → ℕ → Console S
  after_tia_write c register v =
      let effect = effect_of c.tia register v in
      record c {
        tia = tia_after_write c.tia register v;
        awaits_line = c.awaits_line || is_sync effect;
        ended = c.ended || is_frame_end effect;
      }

  -- A cartridge has no place to write to, but a write may select a bank.
  abbrev pub written_at : Console S → Place → ℕ → Console S
  written_at c (Cart address) v = record c { bank = bank_after c.cartridge c.bank address }
  written_at c (Tia register) v = after_tia_write c register v
  written_at c (Ram index) v = record c { riot = with_ram index v c.riot }
  written_at c (Io register) v = record c { riot = after_write c.riot register v }

  -- Cycles that pass: each is three colour clocks and one step of the timer, as a law says. The
  -- Stella Programmer's Guide has both.
  abbrev pub passed : (S → ℕ → ℕ → ℕ → S) → Console S → ℕ → Console S
  passed drawn c n = record c {
    riot = after_cycles n c.riot;
    tia = iterate after_clock (3 * n) c.tia;
    sink = sink_after_pixels drawn c.sink (pixels (3 * n) c.tia);
  }

  -- What a console does as a bus, where `drawn` is what its sink says of one pixel. A pointer byte
  -- in page zero is what a read would give, also of a register: this project's own.
  unfoldable pub meaning_of : (S → ℕ → ℕ → ℕ → S) → Meaning (Console S)
  meaning_of drawn = record {
    passed = passed drawn;
    read_value = λ c address. value_at c (place_of address);
    after_read = λ c address. read_at c (place_of address);
    after_write = λ c address v. written_at c (place_of address) v;
    peeked = λ c address. peeked_at c (place_of address);
    peeked_zero = λ c address. value_at c (place_of address);
  }

-- The cycles until a scanline begins, none where one begins. That an instruction which wrote WSYNC
-- waits so long, and only when it is over, is this project's own rule.
abbrev pub cycles_to_line_start : ℕ → ℕ
cycles_to_line_start clock = (76 - clock / 3) % 76

abbrev pub wait_cycles : {S : Type 0} → Console S → ℕ
wait_cycles c = if c.awaits_line then cycles_to_line_start c.tia.fields.clock else 0

abbrev pub after_wait : {S : Type 0} → (S → ℕ → ℕ → ℕ → S) → Console S → Console S
after_wait drawn c = if c.awaits_line then record (passed drawn c (cycles_to_line_start c.tia.fields.clock)) { awaits_line = false } else c

-- What a console is to a frame. This project's own.
unfoldable pub frame_meaning_of : {S : Type 0} → (S → ℕ → ℕ → ℕ → S) → FrameMeaning (Console S)
frame_meaning_of drawn = record { calls = meaning_of drawn; after_wait = after_wait drawn; wait = wait_cycles; ended = λ c. c.ended }

-- A sink that lists the pixels in the order in which they were put.
abbrev pub with_pixel_logged : List Pixel → ℕ → ℕ → ℕ → List Pixel
with_pixel_logged log line x colour = log ++ record { line = line; x = x; colour = colour } ∷ []
