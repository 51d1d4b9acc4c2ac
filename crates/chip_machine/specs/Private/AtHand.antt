-- Reads of memory that do nothing but let their cycle pass. This project's own.
use Rattle.std.specs.Prelude.{ℕ, ◌≡◌, ◌+◌, ◌%◌, false, None}
use Rattle.cart_board.specs.CartState.{CartState}
use Rattle.cart_board.specs.Plain.{ShowsRom}
use Rattle.riot_map.specs.Place.{place_of}
use Rattle.riot_map.specs.declared.places.Place.TheVariants.{Cart}
use Rattle.chip_machine.specs.Consoles.{Console, byte_found, found_at, seen, selected}

-- A byte of ROM at an address that selects nothing.
pub record IsRomAt (cart : CartState) (at byte : ℕ) : Type 0 where
  pub place : place_of at ≡ Cart at
  pub shown : ShowsRom cart at byte

-- Two such bytes, one after the other, while the processor isn't stopped.
pub record AreAtHand {S : Type 0} (c : Console S) (at first second : ℕ) : Type 0 where
  pub free : c.is_stopped ≡ false
  pub first_rom : IsRomAt c.cart at first
  pub second_rom : IsRomAt c.cart ((at + 1) % 65536) second

-- An access that reads, behind its cycle, finds this byte, and leaves it on the bus and nothing else.
pub record ReadsAlone {S : Type 0} (c : Console S) (at byte : ℕ) : Type 0 where
  pub value : byte_found (selected c at None) at ≡ byte
  pub after : seen (found_at (selected c at None) at) at byte ≡ record c { byte = byte }
