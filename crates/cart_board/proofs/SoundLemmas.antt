-- The rows of the table are sound, and what follows.
use Rattle.std.proofs.Common.{◌≡◌, ◌∙◌, ℕ, ◌+◌, ◌%◌, ◌<◌, ◌≤◌, Bool, true, false, ◌&&◌, if◌then◌else◌, ◌||◌, List, [], ◌∷◌, length, Option, Some, None, refl, sym, ap, subst, arith}
use Rattle.std.specs.Prelude.{find, slice_get, slice_index, slice_set, nat_le, nat_eq, ◌==◌, bit_and}
use Rattle.std.specs.List.{list_all, list_any}
use Rattle.std.proofs.lemmas.Bool.{and_parts, and_from, cond_both, eqb-true, leb-true, le-leb, ltb-true}
use Rattle.std.proofs.lemmas.Nat.{and_le_r}
use Rattle.std.proofs.Math.Nat.{mul-le-mul_left}
use Rattle.cart_board.specs.Access.{is_at, bank_selected, banks_by, banks_selected, banks_of_byte, start_at, offset_of, size_of, is_in, target_by, target_of}
use Rattle.cart_board.specs.Board.{Row, has_length, index_of, last_bank, last_number, last_of}
use Rattle.cart_board.specs.Boards.{boards, IsBoard}
use Rattle.cart_board.proofs.RowLemmas.{of_boards}
use Rattle.cart_board.specs.CartState.{CartState, is_bank, are_banks, bank_at_power_on, banks_at_power_on, cart_target}
use Rattle.cart_board.specs.Private.Sound.{last_start, is_slice_sound, is_window_sound, selects_at_most, is_spot_sound, is_trigger_sound, is_sound}
use Rattle.cart_board.specs.declared.bank.BankByte.{BankByte}
use Rattle.cart_board.specs.declared.bank.BankByte.TheVariants.{First, Second, Third}
use Rattle.cart_board.specs.declared.bank.BankNumbers.{BankNumbers}
use Rattle.cart_board.specs.declared.bank.LastBank.{LastBank}
use Rattle.cart_board.specs.declared.bank.LastBank.TheVariants.{Number, ByLength}
use Rattle.cart_board.specs.declared.hot_spot.HotSpot.{HotSpot}
use Rattle.cart_board.specs.declared.hot_spot.Selects.{Selects}
use Rattle.cart_board.specs.declared.hot_spot.Selects.TheVariants.{Bank, Next, Written}
use Rattle.cart_board.specs.declared.window.Kind.{Kind}
use Rattle.cart_board.specs.declared.window.Kind.TheVariants.{Rom}
use Rattle.cart_board.specs.declared.window.Slice.{Slice}
use Rattle.cart_board.specs.declared.window.Start.{Start}
use Rattle.cart_board.specs.declared.window.Start.TheVariants as start
use Rattle.cart_board.specs.declared.window.Target.{Target}
use Rattle.cart_board.specs.declared.window.Window.{Window}

-- and a number that equals one of them
all_any : (q : ℕ → Bool) (xs : List ℕ) (n : ℕ) → list_all q xs ≡ true → list_any (nat_eq n) xs ≡ true → q n ≡ true
all_any q [] n all is = cc
all_any q (x ∷ xs) n all is = step (λ h. all_any q xs n (and_parts (q x) (list_all q xs) all).1 h) (nat_eq n x) refl is
  where
    step : (list_any (nat_eq n) xs ≡ true → q n ≡ true) → (b : Bool) → nat_eq n x ≡ b → (b || list_any (nat_eq n) xs) ≡ true → q n ≡ true
    step later true e _ = ap q (eqb-true n x e) ∙ (and_parts (q x) (list_all q xs) all).0
    step later false e rest = later rest

-- and the first that passes another test
all_found : {X : Type 0} (p q : X → Bool) (xs : List X) (x : X) → list_all q xs ≡ true → find p xs ≡ Some x → q x ≡ true
all_found p q [] x all is = cc
all_found p q (y ∷ ys) x all is = step (λ h. all_found p q ys x (and_parts (q y) (list_all q ys) all).1 h) (p y) is
  where
    step : (find p ys ≡ Some x → q x ≡ true) → (b : Bool) → (if b then Some y else find p ys) ≡ Some x → q x ≡ true
    step later true found = let same : y ≡ x = cc in ap q (sym same) ∙ (and_parts (q y) (list_all q ys) all).0
    step later false found = later found

abbrev sound_at_each : Row → Bool
sound_at_each row = list_all (is_sound row) row.lengths

table_is_sound : list_all sound_at_each boards ≡ true
table_is_sound = refl

pub board_is_sound : (row : Row) (bytes : ℕ) → IsBoard row → has_length row bytes ≡ true → is_sound row bytes ≡ true
board_is_sound row bytes is size = all_any (is_sound row) row.lengths bytes (of_boards sound_at_each table_is_sound row is) size

-- the parts of soundness
record Sound (row : Row) (bytes : ℕ) : Type 0 where
  spots : list_all (is_spot_sound row bytes) row.hot_spots ≡ true
  trigger : is_trigger_sound row bytes row.trigger ≡ true
  windows : list_all (is_window_sound row bytes) row.windows ≡ true
  rest : is_slice_sound row bytes Rom row.rest ≡ true
  few : nat_le (length row.banks) 3 ≡ true

sound_parts : (row : Row) (bytes : ℕ) → is_sound row bytes ≡ true → Sound row bytes
sound_parts row bytes sound =
    let spots = list_all (is_spot_sound row bytes) row.hot_spots in
    let trigger = is_trigger_sound row bytes row.trigger in
    let windows = list_all (is_window_sound row bytes) row.windows in
    let rest = is_slice_sound row bytes Rom row.rest in
    let few = nat_le (length row.banks) 3 in
    let a = and_parts spots (trigger && (windows && (rest && few))) sound in
    let b = and_parts trigger (windows && (rest && few)) a.1 in
    let c = and_parts windows (rest && few) b.1 in
    let d = and_parts rest few c.1 in
    record { spots = a.0; trigger = b.0; windows = c.0; rest = d.0; few = d.1 }

pub few_banks : (row : Row) (bytes : ℕ) → is_sound row bytes ≡ true → length row.banks ≤ 3
few_banks row bytes sound = leb-true (length row.banks) 3 (sound_parts row bytes sound).few

-- each bank byte is at most its last bank
pub bank_at_most : (row : Row) (bytes : ℕ) (banks : List ℕ) (byte : BankByte) → are_banks row bytes banks ≡ true
    → slice_index banks (index_of byte) ≤ last_bank row bytes byte
bank_at_most row bytes banks First are =
    leb-true (slice_index banks 0) (last_bank row bytes First)
    (and_parts (is_bank row bytes banks First) (is_bank row bytes banks Second) (and_parts (is_bank row bytes banks First && is_bank row bytes banks Second) (is_bank row bytes banks Third) are).0).0
bank_at_most row bytes banks Second are =
    leb-true (slice_index banks 1) (last_bank row bytes Second)
    (and_parts (is_bank row bytes banks First) (is_bank row bytes banks Second) (and_parts (is_bank row bytes banks First && is_bank row bytes banks Second) (is_bank row bytes banks Third) are).0).1
bank_at_most row bytes banks Third are =
    leb-true (slice_index banks 2) (last_bank row bytes Third)
    (and_parts (is_bank row bytes banks First && is_bank row bytes banks Second) (is_bank row bytes banks Third) are).1

three_banks : (row : Row) (bytes a b c : ℕ) → a ≤ last_bank row bytes First → b ≤ last_bank row bytes Second → c ≤ last_bank row bytes Third
    → are_banks row bytes (a ∷ b ∷ c ∷ []) ≡ true
three_banks row bytes a b c first second third =
    let x = nat_le a (last_bank row bytes First) in
    let y = nat_le b (last_bank row bytes Second) in
    let z = nat_le c (last_bank row bytes Third) in
    and_from (x && y) z (and_from x y (le-leb a (last_bank row bytes First) first) (le-leb b (last_bank row bytes Second) second)) (le-leb c (last_bank row bytes Third) third)

-- one that starts so is at most its last bank, however long the cartridge is
abbrev is_low : LastBank → ℕ → Bool
is_low (Number n) bank = nat_le bank n
is_low ByLength bank = bank == 0

abbrev starts_low : Option BankNumbers → Bool
starts_low None = true
starts_low (Some numbers) = is_low numbers.last numbers.power_on

abbrev each_starts_low : Row → Bool
each_starts_low row = starts_low (slice_get row.banks 0) && starts_low (slice_get row.banks 1) && starts_low (slice_get row.banks 2)

low_at_most : (last : LastBank) (bank bytes : ℕ) → is_low last bank ≡ true → bank ≤ last_number last bytes
low_at_most (Number n) bank bytes low = leb-true bank n low
low_at_most ByLength bank bytes low = let none = eqb-true bank 0 low in omega arith

low_start : (numbers : Option BankNumbers) (bytes : ℕ) → starts_low numbers ≡ true → bank_at_power_on numbers ≤ last_of numbers bytes
low_start None bytes low = omega arith
low_start (Some numbers) bytes low = low_at_most numbers.last numbers.power_on bytes low

pub power_on_banks : (row : Row) (bytes : ℕ) → IsBoard row → are_banks row bytes (banks_at_power_on row) ≡ true
power_on_banks row bytes is =
    let first = slice_get row.banks 0 in
    let second = slice_get row.banks 1 in
    let third = slice_get row.banks 2 in
    let all = and_parts (starts_low first && starts_low second) (starts_low third) (of_boards each_starts_low refl row is) in
    let both = and_parts (starts_low first) (starts_low second) all.0 in
    three_banks row bytes _ _ _ (low_start first bytes both.0) (low_start second bytes both.1) (low_start third bytes all.1)

-- a bank byte that is set
set_keeps : (row : Row) (bytes : ℕ) (banks : List ℕ) (byte : BankByte) (n : ℕ) → length banks ≡ 3 → are_banks row bytes banks ≡ true
    → n ≤ last_bank row bytes byte → are_banks row bytes (slice_set banks (index_of byte) n) ≡ true
set_keeps row bytes (a ∷ b ∷ c ∷ []) First n long are most =
    let banks = a ∷ b ∷ c ∷ [] in
    three_banks row bytes n b c most (bank_at_most row bytes banks Second are) (bank_at_most row bytes banks Third are)
set_keeps row bytes (a ∷ b ∷ c ∷ []) Second n long are most =
    let banks = a ∷ b ∷ c ∷ [] in
    three_banks row bytes a n c (bank_at_most row bytes banks First are) most (bank_at_most row bytes banks Third are)
set_keeps row bytes (a ∷ b ∷ c ∷ []) Third n long are most =
    let banks = a ∷ b ∷ c ∷ [] in
    three_banks row bytes a b n (bank_at_most row bytes banks First are) (bank_at_most row bytes banks Second are) most
set_keeps row bytes [] byte n long are most = cc
set_keeps row bytes (a ∷ []) byte n long are most = cc
set_keeps row bytes (a ∷ b ∷ []) byte n long are most = cc
set_keeps row bytes (a ∷ b ∷ c ∷ d ∷ more) byte n long are most = cc

selected_at_most : (selects : Selects) (last bank : ℕ) (written : Option ℕ) → selects_at_most selects last ≡ true → bank ≤ last
    → bank_selected selects last bank written ≤ last
selected_at_most (Bank number) last bank written sound most = leb-true number last sound
selected_at_most Next last bank written sound most = omega arith
selected_at_most Written last bank None sound most = most
selected_at_most Written last bank (Some byte) sound most = omega arith

pub select_keeps : (row : Row) (bytes : ℕ) (banks : List ℕ) (address : ℕ) (written : Option ℕ) → is_sound row bytes ≡ true → length banks ≡ 3
    → are_banks row bytes banks ≡ true → are_banks row bytes (banks_selected row bytes banks address written) ≡ true
select_keeps row bytes banks address written sound long are = go (find (is_at address) row.hot_spots) refl
  where
    go : (o : Option HotSpot) → find (is_at address) row.hot_spots ≡ o → are_banks row bytes (banks_by row bytes banks written o) ≡ true
    go None e = are
    go (Some spot) e =
        let last = last_bank row bytes spot.byte in
        let bank = slice_index banks (index_of spot.byte) in
        set_keeps row bytes banks spot.byte (bank_selected spot.selects last bank written) long are
        (selected_at_most spot.selects last bank written
        (all_found (is_at address) (is_spot_sound row bytes) row.hot_spots spot (sound_parts row bytes sound).spots e)
        (bank_at_most row bytes banks spot.byte are))

byte_keeps_by : (row : Row) (bytes : ℕ) (trigger : Option ℕ) (banks : List ℕ) (address byte : ℕ) → is_trigger_sound row bytes trigger ≡ true
    → length banks ≡ 3 → are_banks row bytes banks ≡ true → are_banks row bytes (banks_of_byte trigger banks address byte) ≡ true
byte_keeps_by row bytes None banks address byte sound long are = are
byte_keeps_by row bytes (Some trigger) (a ∷ b ∷ c ∷ []) address byte sound long are =
    let banks = a ∷ b ∷ c ∷ [] in
    let parts = and_parts (nat_le 1 (last_bank row bytes First)) (nat_le 1 (last_bank row bytes Second)) sound in
    let one = leb-true 1 (last_bank row bytes First) parts.0 in
    let two = leb-true 1 (last_bank row bytes Second) parts.1 in
    let most = bank_at_most row bytes banks First are in
    three_banks row bytes
    (if b == 1 then (if bit_and byte 32 == 0 then 1 else 0) else a) (if address % 8192 == trigger then 1 else 0) c
    (cond_both (b == 1) (if bit_and byte 32 == 0 then 1 else 0) a (λ x. x ≤ last_bank row bytes First)
    (λ _. cond_both (bit_and byte 32 == 0) 1 0 (λ x. x ≤ last_bank row bytes First) (λ _. one) (λ _. omega arith)) (λ _. most))
    (cond_both (address % 8192 == trigger) 1 0 (λ x. x ≤ last_bank row bytes Second) (λ _. two) (λ _. omega arith))
    (bank_at_most row bytes banks Third are)
byte_keeps_by row bytes trigger [] address byte sound long are = cc
byte_keeps_by row bytes trigger (a ∷ []) address byte sound long are = cc
byte_keeps_by row bytes trigger (a ∷ b ∷ []) address byte sound long are = cc
byte_keeps_by row bytes trigger (a ∷ b ∷ c ∷ d ∷ more) address byte sound long are = cc

pub byte_keeps : (row : Row) (bytes : ℕ) (banks : List ℕ) (address byte : ℕ) → is_sound row bytes ≡ true → length banks ≡ 3
    → are_banks row bytes banks ≡ true → are_banks row bytes (banks_of_byte row.trigger banks address byte) ≡ true
byte_keeps row bytes banks address byte sound long are =
    byte_keeps_by row bytes row.trigger banks address byte (sound_parts row bytes sound).trigger long are

start_at_most : (row : Row) (bytes size : ℕ) (banks : List ℕ) (at : Start) → are_banks row bytes banks ≡ true
    → start_at at size bytes banks ≤ last_start row bytes size at
start_at_most row bytes size banks (start.At offset) are = omega arith
start_at_most row bytes size banks (start.Bank first byte) are =
    let h = mul-le-mul_left size (bank_at_most row bytes banks byte are) in
    omega arith
start_at_most row bytes size banks start.Last are = omega arith

slice_within : (row : Row) (bytes : ℕ) (banks : List ℕ) (kind : Kind) (slice : Slice) (address : ℕ) → is_slice_sound row bytes kind slice ≡ true
    → are_banks row bytes banks ≡ true → offset_of slice bytes banks address < size_of row bytes kind
slice_within row bytes banks kind slice address sound are =
    let room = ltb-true (last_start row bytes (slice.mask + 1) slice.start + slice.mask) (size_of row bytes kind) sound in
    let begins = start_at_most row bytes (slice.mask + 1) banks slice.start are in
    let within = and_le_r address slice.mask in
    omega arith

-- an address leads to a byte that there is
pub target_within : (row : Row) (bytes : ℕ) (banks : List ℕ) (address : ℕ) → is_sound row bytes ≡ true → are_banks row bytes banks ≡ true
    → let target = target_of row bytes banks address in target.offset < size_of row bytes target.kind
target_within row bytes banks address sound are = go (find (is_in address banks) row.windows) refl
  where
    go : (o : Option Window) → find (is_in address banks) row.windows ≡ o
        → let target = target_by row bytes banks address o in target.offset < size_of row bytes target.kind
    go None e = slice_within row bytes banks Rom row.rest address (sound_parts row bytes sound).rest are
    go (Some window) e =
        slice_within row bytes banks window.kind window.slice address
        (all_found (is_in address banks) (is_window_sound row bytes) row.windows window (sound_parts row bytes sound).windows e) are

-- the same of a target that was found
pub room_of_kind : (c : CartState) (address : ℕ) (target : Target) (kind : Kind) → target ≡ cart_target c address → IsBoard c.cartridge.row
    → has_length c.cartridge.row (length c.cartridge.bytes) ≡ true → are_banks c.cartridge.row (length c.cartridge.bytes) c.banks ≡ true
    → target.kind ≡ kind → target.offset < size_of c.cartridge.row (length c.cartridge.bytes) kind
room_of_kind c address target kind is board size are same =
    let row = c.cartridge.row in
    let bytes = length c.cartridge.bytes in
    subst (λ (kind : Kind). target.offset < size_of row bytes kind) same
    (subst (λ (target : Target). target.offset < size_of row bytes target.kind) (sym is)
    (target_within row bytes c.banks address (board_is_sound row bytes board size) are))
