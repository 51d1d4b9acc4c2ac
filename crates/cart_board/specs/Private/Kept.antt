-- What a cartridge in a console keeps besides its state. This project's own.
use Rattle.std.specs.Prelude.{ℕ, List, [], ◌≡◌, ◌<◌, ◌≤◌, ◌-◌, ◌^◌, ◌%◌, ◌==◌, ◌&&◌, nat_le, find, is_none, length, Bool, true, None}
use Rattle.cart_board.specs.Access.{is_at, start_of}
use Rattle.cart_board.specs.Board.{Row, has_length}
use Rattle.cart_board.specs.Boards.{IsBoard}
use Rattle.cart_board.specs.CartState.{Cartridge, are_banks}
use Rattle.cart_board.specs.declared.hot_spot.HotSpot.{HotSpot}

-- An address at which a board without windows and without a trigger has no hot spot.
pub record IsPlainAt (row : Row) (at : ℕ) : Type 0 where
  pub untriggered : is_none row.trigger ≡ true
  pub no_spot : find (is_at at) row.hot_spots ≡ None
  pub no_window : row.windows ≡ []

-- A hot spot that is one address of the last 32.
abbrev pub is_high : HotSpot → Bool
is_high spot = (spot.mask == 8191) && nat_le 8160 spot.value

pub record IsKept (c : Cartridge) (banks ram : List ℕ) (rest plain_to pairs : ℕ) : Type 0 where
  pub board : IsBoard c.row
  pub size : has_length c.row (length c.bytes) ≡ true
  pub lawful : are_banks c.row (length c.bytes) banks ≡ true
  pub whole : length ram ≡ c.row.ram
  -- where the ROM begins that addresses in no window lead to
  pub begins : rest ≡ start_of c.row.rest (length c.bytes) banks
  pub small : rest < 2 ^ 63
  -- the addresses below this one, of 13 lines, are plain
  pub plain : (at : ℕ) → at % 8192 < plain_to → IsPlainAt c.row at
  pub most_plain : plain_to ≤ 8192
  -- so many of those from the cartridge's first on, 4096, are not the last of them
  pub paired : pairs ≡ plain_to - 4097
