-- Accesses that change nothing in a cartridge. The words are this project's own; what they say follows from
-- what an access does.
use Rattle.std.specs.Prelude.{ℕ, ◌≡◌, ◌+◌, ◌/◌, ◌%◌, Option}
use Rattle.cart_board.specs.CartState.{CartState, after_byte, after_select, after_write, cart_read, cart_target}
use Rattle.cart_board.specs.declared.window.Kind.TheVariants.{Rom}

-- An access to an address, of the cartridge or not, selects nothing.
pub record SelectsNothing (c : CartState) (address : ℕ) : Type 0 where
  pub before : (written : Option ℕ) → after_select c address written ≡ c
  pub behind : (byte : ℕ) → after_byte c address byte ≡ c

-- A read of an address of the cartridge gives this byte of ROM, and selects nothing.
pub record ShowsRom (c : CartState) (address byte : ℕ) : Type 0 where
  pub selects : SelectsNothing c address
  pub rom : (cart_target c address).kind ≡ Rom
  pub byte_is : (bus : ℕ) → cart_read c address bus ≡ byte
  pub keeps : (bus : ℕ) → after_write c address bus ≡ c

-- The same of an address and of the next, which both are of the cartridge: A12 is high.
pub record ShowsRomPair (c : CartState) (address first second : ℕ) : Type 0 where
  pub first_high : address / 4096 % 2 ≡ 1
  pub first_shown : ShowsRom c address first
  pub second_high : (address + 1) % 65536 / 4096 % 2 ≡ 1
  pub second_shown : ShowsRom c ((address + 1) % 65536) second
