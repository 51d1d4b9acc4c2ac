-- A cartridge in a console: its bytes on a board, what is selected, and what its RAM holds; and what
-- accesses do to it. That what an access selects before its byte is taken gives that byte was
-- measured in Stella 6.7. The rest is this project's own.
use Rattle.std.specs.Prelude.{ℕ, List, [], ◌∷◌, Option, Some, None, Bool, ◌&&◌, ◌==◌, nat_le, slice_get}
use Rattle.std.specs.Prelude.{slice_index, slice_set, length, replicate}
use Rattle.cart_board.specs.Board.{Row, index_of, last_bank}
use Rattle.cart_board.specs.Access.{banks_selected, banks_of_byte, target_of}
use Rattle.cart_board.specs.declared.bank.BankByte.{BankByte}
use Rattle.cart_board.specs.declared.bank.BankByte.TheVariants.{First, Second, Third}
use Rattle.cart_board.specs.declared.bank.BankNumbers.{BankNumbers}
use Rattle.cart_board.specs.declared.window.Kind.{Kind}
use Rattle.cart_board.specs.declared.window.Kind.TheVariants.{Rom, ReadPort, WritePort}
use Rattle.cart_board.specs.declared.window.Target.{Target}

-- A cartridge: a board, and the bytes of its ROM.
pub record Cartridge : Type 0 where
  pub row : Row
  pub bytes : List ℕ

pub record CartState : Type 0 where
  pub cartridge : Cartridge
  -- the three bank bytes
  pub banks : List ℕ
  pub ram : List ℕ

-- ---- what it can be

abbrev pub is_bank : Row → ℕ → List ℕ → BankByte → Bool
is_bank row bytes banks byte = nat_le (slice_index banks (index_of byte)) (last_bank row bytes byte)

-- Each bank byte is the number of a bank, in a cartridge of so many bytes. One that the board hasn't
-- is 0.
abbrev pub are_banks : Row → ℕ → List ℕ → Bool
are_banks row bytes banks = is_bank row bytes banks First && is_bank row bytes banks Second && is_bank row bytes banks Third

-- And the RAM is as long as the board's.
abbrev pub fits : Cartridge → List ℕ → List ℕ → Bool
fits c banks ram = are_banks c.row (length c.bytes) banks && (length ram == c.row.ram)

-- ---- power-on

abbrev pub bank_at_power_on : Option BankNumbers → ℕ
bank_at_power_on None = 0
bank_at_power_on (Some numbers) = numbers.power_on

abbrev pub banks_at_power_on : Row → List ℕ
banks_at_power_on row =
    bank_at_power_on (slice_get row.banks 0)
    ∷ bank_at_power_on (slice_get row.banks 1)
    ∷ bank_at_power_on (slice_get row.banks 2)
    ∷ []

-- As a console is switched on the RAM is 0.
abbrev pub cart_at_power_on : Cartridge → CartState
cart_at_power_on c = record { cartridge = c; banks = banks_at_power_on c.row; ram = replicate c.row.ram 0 }

-- ---- an access

-- First it selects. Of a write the byte is looked at.
abbrev pub after_select : CartState → ℕ → Option ℕ → CartState
after_select c address written =
    record c { banks = banks_selected c.cartridge.row (length c.cartridge.bytes) c.banks address written }

-- Then an address of the cartridge leads somewhere in it.
abbrev pub cart_target : CartState → ℕ → Target
cart_target c address = target_of c.cartridge.row (length c.cartridge.bytes) c.banks address

-- A read gives the byte there, and where RAM is for writing the last byte on the bus (this project's
-- own).
abbrev pub byte_at : CartState → Kind → ℕ → ℕ → ℕ
byte_at c Rom offset bus = slice_index c.cartridge.bytes offset
byte_at c ReadPort offset bus = slice_index c.ram offset
byte_at c WritePort offset bus = bus

abbrev pub cart_read : CartState → ℕ → ℕ → ℕ
cart_read c address bus = let target = cart_target c address in byte_at c target.kind target.offset bus

-- A byte goes into the RAM where that is for writing, and nowhere else.
abbrev pub ram_with : Kind → List ℕ → ℕ → ℕ → List ℕ
ram_with Rom ram offset byte = ram
ram_with ReadPort ram offset byte = ram
ram_with WritePort ram offset byte = slice_set ram offset byte

-- A write. A read does the same with the last byte on the bus, since a board isn't told which of the
-- two an access is.
abbrev pub after_write : CartState → ℕ → ℕ → CartState
after_write c address byte =
    let target = cart_target c address in
    record c { ram = ram_with target.kind c.ram target.offset byte }

-- At last its byte selects.
abbrev pub after_byte : CartState → ℕ → ℕ → CartState
after_byte c address byte = record c { banks = banks_of_byte c.cartridge.row.trigger c.banks address byte }
