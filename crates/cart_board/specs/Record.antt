-- What a state's record has of a cartridge: the board's bank bytes, and then its RAM. This project's
-- own.
use Rattle.std.specs.Prelude.{ℕ, List, [], ◌∷◌, ◌++◌, ◌+◌, ◌≡◌, length, take, drop, slice_index, nat_lt, if◌then◌else◌}
use Rattle.cart_board.specs.Board.{Row}
use Rattle.cart_board.specs.CartState.{CartState}

abbrev pub record_length : Row → ℕ
record_length row = length row.banks + row.ram

abbrev pub record_bytes : CartState → List ℕ
record_bytes c = take (length c.cartridge.row.banks) c.banks ++ c.ram

-- A bank byte that such bytes spell, by its place among the three. One that the board hasn't is 0.
abbrev pub bank_in : Row → List ℕ → ℕ → ℕ
bank_in row spelled i = if nat_lt i (length row.banks) then slice_index spelled i else 0

abbrev pub banks_in : Row → List ℕ → List ℕ
banks_in row spelled = bank_in row spelled 0 ∷ bank_in row spelled 1 ∷ bank_in row spelled 2 ∷ []

abbrev pub ram_in : Row → List ℕ → List ℕ
ram_in row spelled = drop (length row.banks) spelled

-- The bytes of a cartridge's state spell it.
pub record IsSpelled (c : CartState) : Type 0 where
  pub whole : length (record_bytes c) ≡ record_length c.cartridge.row
  pub banks : banks_in c.cartridge.row (record_bytes c) ≡ c.banks
  pub ram : ram_in c.cartridge.row (record_bytes c) ≡ c.ram
