-- Reads of ROM that do nothing but let their cycle pass.
use Rattle.std.proofs.Common.{◌≡◌, ◌∙◌, ℕ, ◌+◌, ◌/◌, ◌%◌, true, false, Option, Some, None, refl, sym, ap}
use Rattle.std.specs.Prelude.{IfSome}
use Rattle.bus_cycles.specs.Buses.{AtHand}
use Rattle.bus_cycles.specs.declared.bus.Purpose.{Purpose}
use Rattle.bus_cycles.specs.declared.bus.Purpose.TheVariants.{Code}
use Rattle.cart_board.specs.CartState.{CartState, after_byte, after_write, cart_read}
use Rattle.cart_board.specs.Plain.{ShowsRomPair}
use Rattle.riot_map.specs.Place.{place_of}
use Rattle.riot_map.specs.declared.places.Place.{Place}
use Rattle.riot_map.specs.declared.places.Place.TheVariants.{Cart}
use Rattle.chip_machine.specs.Consoles.{Console, after_cycle, after_stop, byte_at, byte_found, found_at, meaning_of, read_at}
use Rattle.chip_machine.specs.Consoles.{seen, selected}
use Rattle.chip_machine.specs.Private.AtHand.{AreAtHand, IsRomAt, ReadsAlone}

-- A12 high leads to the cartridge.
high-place : (at : ℕ) → at / 4096 % 2 ≡ 1 → place_of at ≡ Cart at
high-place at high = rw high refl

pub pair-at-hand : {S : Type 0} (c : Console S) (at : ℕ) (bytes : Option (ℕ × ℕ)) → c.is_stopped ≡ false
    → IfSome bytes (λ bytes. ShowsRomPair c.cart at bytes.0 bytes.1)
    → IfSome bytes (λ bytes. AreAtHand c at bytes.0 bytes.1)
pair-at-hand c at (Some bytes) free pair = record {
  free = free;
  first_rom = record { place = high-place at pair.first_high; shown = pair.first_shown };
  second_rom = record { place = high-place ((at + 1) % 65536) pair.second_high; shown = pair.second_shown };
}
pair-at-hand c at None free pair = tt

module _ {S : Type 0} where
  rom-read : (c : Console S) (at byte : ℕ) → IsRomAt c.cart at byte → ReadsAlone c at byte
  rom-read c at byte rom =
      let selects = rom.shown.selects in
      record {
        value = ap (λ (p : Place). byte_at (selected c at None) p) rom.place
            ∙ ap (λ (k : CartState). cart_read k at c.byte) (selects.before None)
            ∙ rom.shown.byte_is c.byte;
        after = ap (λ (p : Place). seen (read_at (selected c at None) p) at byte) rom.place
            ∙ ap (λ (k : CartState). record c { cart = after_byte (after_write k at c.byte) at byte; byte = byte }) (selects.before None)
            ∙ ap (λ (k : CartState). record c { cart = after_byte k at byte; byte = byte }) (rom.shown.keeps c.byte)
            ∙ ap (λ (k : CartState). record c { cart = k; byte = byte }) (selects.behind byte);
      }

  -- What a read leaves that does nothing else.
  read-alone : (c : Console S) (at byte : ℕ) → ReadsAlone c at byte
      → (let here = selected c at None in record c { byte = byte } ≡ seen (found_at here at) at (byte_found here at))
  read-alone c at byte alone =
      let here = selected c at None in
      sym alone.after ∙ ap (λ (b : ℕ). seen (found_at here at) at b) (sym alone.value)

-- ---- bytes of the program
module _ {S : Type 0} (drawn : S → ℕ → ℕ → ℕ → S) where
  record IsCode (c : Console S) (at byte : ℕ) : Type 0 where
    pub holds : (meaning_of drawn).holds_code c at ≡ true
    pub value : (meaning_of drawn).read_value c at ≡ byte
    pub after : (purpose : Purpose) → (meaning_of drawn).after_read c purpose at ≡ record (after_cycle drawn c) { byte = byte }

  code : (c : Console S) (at byte : ℕ) → c.is_stopped ≡ false → IsRomAt c.cart at byte → IsCode c at byte
  unfolding meaning_of
  code c at byte free rom =
      let stop : after_stop drawn c ≡ c = rw free refl in
      let read = rom-read (after_cycle drawn c) at byte (record { place = rom.place; shown = rom.shown }) in
      let value = ap (λ (x : Console S). byte_found (selected (after_cycle drawn x) at None) at) stop ∙ read.value in
      record {
        holds = rw (rom.place, rom.shown.rom) refl;
        value = value;
        after = λ purpose.
            ap (λ (x : Console S). let here = selected (after_cycle drawn x) at None in seen (found_at here at) at (byte_found here at)) stop
            ∙ sym (read-alone (after_cycle drawn c) at byte read);
      }

  module _ (c : Console S) (at first second : ℕ) (are : AreAtHand c at first second) where
    one : IsCode c at first
    one = code c at first are.free are.first_rom

    two : IsCode (record (after_cycle drawn c) { byte = first }) ((at + 1) % 65536) second
    two = code (record (after_cycle drawn c) { byte = first }) ((at + 1) % 65536) second are.free are.second_rom

    at-hand : AtHand (meaning_of drawn) c at first second
    at-hand = record {
      holds_first = one.holds;
      first_is = sym one.value;
      holds_second = rw (one.after Code) two.holds;
      second_is = rw (one.after Code) (sym two.value);
    }

    pub two-read : (purpose : Purpose) (byte : ℕ)
        → byte ≡ (meaning_of drawn).read_value ((meaning_of drawn).after_read c Code at) ((at + 1) % 65536)
        → record (after_cycle drawn (after_cycle drawn c)) { byte = byte }
        ≡ (meaning_of drawn).after_read ((meaning_of drawn).after_read c Code at) purpose ((at + 1) % 65536)
    two-read purpose byte is =
        ap (λ (byte : ℕ). record (after_cycle drawn (after_cycle drawn c)) { byte = byte }) (is ∙ sym at-hand.second_is)
        ∙ rw (one.after Code) (sym (two.after purpose))

  pub both-at-hand : (c : Console S) (at : ℕ) (bytes : Option (ℕ × ℕ)) → IfSome bytes (λ bytes. AreAtHand c at bytes.0 bytes.1)
      → IfSome bytes (λ bytes. AtHand (meaning_of drawn) c at bytes.0 bytes.1)
  both-at-hand c at (Some bytes) are = at-hand c at bytes.0 bytes.1 are
  both-at-hand c at None are = tt
